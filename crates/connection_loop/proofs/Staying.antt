-- Of the other connections nothing moves.
use Rattle.std.proofs.Common.{inl, inr, ◌≡◌, ℕ, ◌+◌, ◌≤◌, ◌==◌, false, cond, List, [], ◌∷◌, ◌++◌, length, drop, refl, sym, ap, ◌∙◌, subst}
use Rattle.std.specs.Prelude.{slice_get, Option, Some, IfSome, Result, Ok, Err}
use Rattle.std.specs.List.{AllByRecursion}
use Rattle.std.proofs.Math.Seq.{drop-nil}
use Rattle.partition_model.specs.declared.options.Options.{Options}
use Rattle.connections.specs.declared.schedule.Step.{Step}
use Rattle.connections.specs.declared.connections.Broken.{Broken}
use Rattle.connections.specs.declared.connections.Input.{Input}
use Rattle.connections.specs.Connection.{Connection, after_read}
use Rattle.connections.specs.State.{Entry, opened, reported, turned_away, met, second, received, sent, asked, closed, held, state_after}
use Rattle.connections.specs.Log.{Log, connections_of, state_of, received_of, sent_of}
use Rattle.fronts.specs.Answered.{Answered}
use Rattle.connection_loop.specs.declared.answer.Halt.{Halt}
use Rattle.connection_loop.specs.declared.client.Client.{Client}
use Rattle.connection_loop.specs.Traffic.{IsSend, Sends, Reads, HasEnded, after_receiving}
use Rattle.connection_loop.specs.Turns.{GrowsBy}
use Rattle.connection_loop.specs.Held.{StaysAs, Passes, Looks}
use Rattle.connection_loop.proofs.Traffic.{sends_received, mets_sent, mets_received, mets_send}
use Rattle.connection_loop.proofs.Turning.{grows_none, grows_then, grows_fewer, grows_sends, grows_read}
use Rattle.connection_loop.proofs.Earning.{sends_unasked, reads_unasked}
use Rattle.connection_loop.proofs.Drying.{sends_ended, ended_sends, in_changed}
use Rattle.connection_loop.proofs.Making.{made_sends, made_reads}
use Rattle.connection_loop.proofs.Moments.{sends_timed, reads_timed}
use Rattle.connection_loop.proofs.Moving.{moves_none, moves_then, moves_sends, moves_reads}

pub stays_same : (d : ℕ) (log : Log) → StaysAs d log log
stays_same d log = record { came = refl; went = refl; over = λ is. is; made = λ none. none }

pub stays_then : {d : ℕ} {old between new : Log} → StaysAs d old between → StaysAs d between new → StaysAs d old new
stays_then first behind = record {
  came = behind.came ∙ first.came;
  went = behind.went ∙ first.went;
  over = λ is. behind.over (first.over is);
  made = λ none. first.made (behind.made none);
}

-- Bytes that were sent

sent_others : (c d : ℕ) → (c == d) ≡ false → (more entries : List Entry) → AllByRecursion (IsSend c) more → sent_of d (more ++ entries) ≡ sent_of d entries
sent_others c d other [] entries each = refl
sent_others c d other (met ∷ more) entries each = sent_others c d other more entries each.1
sent_others c d other (sent e bytes ∷ more) entries each =
    ap (λ t. cond t (sent_of d (more ++ entries) ++ bytes) (sent_of d (more ++ entries))) (ap (λ x. x == d) each.0 ∙ other) ∙ sent_others c d other more entries each.1
sent_others c d other (opened n ∷ more) entries each = absurd each.0
sent_others c d other (reported n ∷ more) entries each = absurd each.0
sent_others c d other (turned_away ∷ more) entries each = absurd each.0
sent_others c d other (second s ∷ more) entries each = absurd each.0
sent_others c d other (received e bytes ∷ more) entries each = absurd each.0
sent_others c d other (asked e ∷ more) entries each = absurd each.0
sent_others c d other (closed e ∷ more) entries each = absurd each.0

pub stays_sent : {c : ℕ} {text : List ℕ} {old new : Log} → Sends c text old new → (d : ℕ) → (c == d) ≡ false → StaysAs d old new
stays_sent {c} {text} {old} {new} sends d other = record {
  came = ap (received_of d) sends.entries ∙ sends_received c sends.more old.entries sends.each d;
  went = ap (sent_of d) sends.entries ∙ sent_others c d other sends.more old.entries sends.each;
  over = sends_ended sends d;
  made = made_sends sends d;
}

-- Bytes that were received

pub receiving_others : (t c d : ℕ) → (c == d) ≡ false → (bytes : List ℕ) (entries : List Entry) → received_of d (after_receiving t c bytes entries) ≡ received_of d entries
receiving_others t c d other [] entries = refl
receiving_others t c d other (byte ∷ bytes) entries = ap (λ b. cond b (received_of d entries ++ byte ∷ bytes) (received_of d entries)) other

pub receiving_sent : (t c d : ℕ) (bytes : List ℕ) (entries : List Entry) → sent_of d (after_receiving t c bytes entries) ≡ sent_of d entries
receiving_sent t c d [] entries = refl
receiving_sent t c d (byte ∷ bytes) entries = refl

ended_read : (count : ℕ) (x : Connection) → HasEnded x → HasEnded (after_read count x)
ended_read count x is = record { ended = is.ended; read = ap (drop count) is.read ∙ drop-nil count; none = is.none }

ended_receiving : (t c : ℕ) (schedule : List Step) (bytes : List ℕ) (entries : List Entry) (d : ℕ) → IfSome (slice_get (state_after schedule entries).connections d) HasEnded
    → IfSome (slice_get (state_after schedule (after_receiving t c bytes entries)).connections d) HasEnded
ended_receiving t c schedule [] entries d is = is
ended_receiving t c schedule (byte ∷ bytes) entries d is =
    in_changed c (after_read (length (byte ∷ bytes))) (ended_read (length (byte ∷ bytes))) d (state_after schedule entries).connections is

pub stays_read : {c : ℕ} {bytes : List ℕ} {old new : Log} → Reads c bytes old new → (d : ℕ) → (c == d) ≡ false → StaysAs d old new
stays_read {c} {bytes} {old} {new} reads d other = record {
  came = ap (received_of d) reads.entries ∙ receiving_others reads.at c d other bytes (reads.mets ++ old.entries) ∙ mets_received d reads.mets old.entries reads.each;
  went = ap (sent_of d) reads.entries ∙ receiving_sent reads.at c d bytes (reads.mets ++ old.entries) ∙ mets_sent d reads.mets old.entries reads.each;
  over = λ is.
      subst (λ (e : List Entry). IfSome (slice_get (state_after new.schedule e).connections d) HasEnded) (sym reads.entries)
      (subst (λ (s : List Step). IfSome (slice_get (state_after s (after_receiving reads.at c bytes (reads.mets ++ old.entries))).connections d) HasEnded) (sym reads.schedule)
      (ended_receiving reads.at c old.schedule bytes (reads.mets ++ old.entries) d (ended_sends c old.schedule reads.mets old.entries (mets_send c reads.mets reads.each) d is)));
  made = made_reads reads d;
}

-- Of all of them

pub passes_same : (reads c : ℕ) (log : Log) → Passes reads c log log
passes_same reads c log =
    record { schedule = refl; piece = refl; few_calls = grows_none reads log.entries; moves = moves_none c (state_of log); others = λ d other. stays_same d log; unasked = λ d. refl; timed = λ is. is }

pub passes_then : {reads more c : ℕ} {old between new : Log} → Passes reads c old between → Passes more c between new → Passes (reads + more) c old new
passes_then first behind = record {
  schedule = behind.schedule ∙ first.schedule;
  piece = behind.piece ∙ first.piece;
  few_calls = grows_then first.few_calls behind.few_calls;
  moves = moves_then first.moves behind.moves;
  others = λ d other. stays_then (first.others d other) (behind.others d other);
  unasked = λ d. behind.unasked d ∙ first.unasked d;
  timed = λ is. behind.timed (first.timed is);
}

pub passes_fewer : {reads more c : ℕ} {old new : Log} → reads ≤ more → Passes reads c old new → Passes more c old new
passes_fewer less passes =
    record { schedule = passes.schedule; piece = passes.piece; few_calls = grows_fewer less passes.few_calls; moves = passes.moves; others = passes.others; unasked = passes.unasked; timed = passes.timed }

pub passes_sends : (reads : ℕ) {c : ℕ} {text : List ℕ} {old new : Log} → Sends c text old new → Passes reads c old new
passes_sends reads {c} {text} {old} sends = record {
  schedule = sends.schedule;
  piece = sends.piece;
  few_calls = subst (λ (e : List Entry). GrowsBy reads old.entries e) (sym sends.entries) (grows_sends reads c sends.more old.entries sends.each);
  moves = moves_sends sends;
  others = stays_sent sends;
  unasked = sends_unasked sends;
  timed = sends_timed sends;
}

pub passes_reads : {c : ℕ} {bytes : List ℕ} {old new : Log} → Reads c bytes old new → Passes 1 c old new
passes_reads {c} {bytes} {old} reads = record {
  schedule = reads.schedule;
  piece = reads.piece;
  few_calls = subst (λ (e : List Entry). GrowsBy 1 old.entries e) (sym reads.entries) (grows_read reads.at c bytes reads.mets old.entries (mets_send c reads.mets reads.each));
  moves = moves_reads reads;
  others = stays_read reads;
  unasked = reads_unasked reads;
  timed = reads_timed reads;
}

-- what is under a number is there still
pub passes_under : {reads c : ℕ} {old new : Log} → Passes reads c old new → (n d : ℕ) → held n (connections_of old) ≡ Some d → held n (connections_of new) ≡ Some d
passes_under passes n d is = passes.moves.same n ∙ is

-- One look

pub looks_passes : (options : Options) (base : ℕ) (client : Client) (answers : List Answered) (replies : List ℕ) (now : Client) (r : Result (Halt × Option Input) Broken) (c : ℕ) (old new : Log)
    → Looks options base client answers replies now r c old new → Passes 1 c old new
looks_passes options base client answers replies now (Err broken) c old new looks = passes_reads looks.2
looks_passes options base client answers replies now (Ok r) c old new looks = elim looks as (λ _. Passes 1 c old new) [
  | inl further ↦ subst (λ (l : Log). Passes 1 c old l) (sym further.same) (passes_same 1 c old)
  | inr reads ↦ passes_reads reads.reads
]

pub looks_held : (options : Options) (base : ℕ) (client : Client) (answers : List Answered) (replies : List ℕ) (now : Client) (r : Result (Halt × Option Input) Broken) (c : ℕ) (old new : Log)
    → Looks options base client answers replies now r c old new → (n d : ℕ) → held n (connections_of old) ≡ Some d → held n (connections_of new) ≡ Some d
looks_held options base client answers replies now r c old new looks = passes_under (looks_passes options base client answers replies now r c old new looks)
