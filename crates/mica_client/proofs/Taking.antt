-- What replies make of the answers: none that was known is lost, each reply makes one known, and each is a line for its line of the trace.
use Rattle.std.proofs.Common.{◌≡◌, ◌≤◌, ◌<◌, ℕ, zero, suc, ◌+◌, ◌-◌, ◌==◌, Bool, true, false, List, [], ◌∷◌, length, refl, sym, ap, subst, ◌∙◌, arith, get_or, set, cond, Option, Some, None, is_some, is_none, Result, Ok, Err, option_map, option_and_then}
use Rattle.std.specs.Prelude.{slice_get, find, nat_le, IfSome}
use Rattle.std.specs.List.{All, AllByRecursion, list_all}
use Rattle.std.proofs.lemmas.Bool.{eqb-true, leb-true, and_parts}
use Rattle.std.proofs.lemmas.List.{length-set}
use Rattle.std.proofs.lemmas.List.Sums.{sum_by-set}
use Rattle.std.proofs.lemmas.List.Elements.{recursion_from_All}
use Rattle.mica_words.specs.declared.item.TheConstants.{MAX_VALUE_LEN}
use Rattle.mica_words.specs.Item.{ValueFits}
use Rattle.partition_model.specs.declared.write.Op.{Op}
use Rattle.partition_model.specs.declared.write.Op.TheVariants.{Put as PutOp, Add as AddOp, Touch as TouchOp, Del as DelOp}
use Rattle.partition_model.specs.declared.write.Outcome.{Outcome}
use Rattle.partition_model.specs.declared.write.Outcome.TheVariants.{Stored, Deleted, Absent, Touched, FullSpare, FullBlock, Worn, Exists}
use Rattle.mica_trace.specs.declared.line.TraceOp.{TraceOp}
use Rattle.mica_trace.specs.declared.line.TraceOp.TheVariants as op
use Rattle.mica_trace.specs.declared.line.TraceLine.{TraceLine}
use Rattle.mica_trace.specs.declared.report.Line.{Line}
use Rattle.mica_trace.specs.declared.report.Line.TheVariants.{Hit, Miss}
use Rattle.mica_trace.specs.LawfulReport.{IsLineFor, IsKindOf, IsReplyTo}
use Rattle.mica_trace.specs.Rounds.{op_of}
use Rattle.mica_trace.specs.ReportGrammar.{IsReportLine, HasOutcome}
use Rattle.batch_packets.specs.declared.batch.Want.{Want}
use Rattle.batch_packets.specs.declared.batch.Request.{Request}
use Rattle.batch_packets.specs.declared.batch.Batch.{Batch}
use Rattle.batch_packets.specs.declared.status.Status.{Status}
use Rattle.batch_packets.specs.declared.status.Status.TheVariants as status
use Rattle.batch_packets.specs.declared.replies.Reply.{Reply}
use Rattle.batch_packets.specs.declared.replies.Replies.{Replies}
use Rattle.batch_packets.specs.ReplyGrammar.{IsReply, IsReplies, status_byte, longest_value}
use Rattle.mica_client.specs.declared.options.TheConstants.{VERSION}
use Rattle.mica_client.specs.declared.fault.AskFault.{AskFault}
use Rattle.mica_client.specs.declared.fault.AskFault.TheVariants.{Stranger, Double}
use Rattle.mica_client.specs.Batches.{want_of}
use Rattle.mica_client.proofs.Requests.{of_line}
use Rattle.mica_client.specs.Answers.{KnownLines, HasTicketIn, HasTickets, wrote, is_answered, line_of, line_got, outcome_of_put, outcome_of_add, outcome_of_touch, outcome_of_del, is_printable, want_at, by_line, by_want, after_one, after_replies, go_on, open_answers, AreFor, IsOfTrace, KeepsAnswers}

-- a list of answers with one more known

known_set : (answers : KnownLines) (i : ℕ) (line : Line) (n : ℕ) → is_some (option_and_then (λ a. a) (slice_get answers n)) ≡ true → is_some (option_and_then (λ a. a) (slice_get (set answers i (Some line)) n)) ≡ true
known_set [] i line n h = h
known_set (x ∷ xs) zero line zero h = refl
known_set (x ∷ xs) zero line (suc n) h = h
known_set (x ∷ xs) (suc i) line zero h = h
known_set (x ∷ xs) (suc i) line (suc n) h = known_set xs i line n h

none_known : (answer : Option Line) → is_some answer ≡ false → is_none answer ≡ true
none_known None h = refl
none_known (Some line) h = absurd (cc)

open_at : (answers : KnownLines) (i : ℕ) (d : Option Line) → i < length answers → is_some (option_and_then (λ a. a) (slice_get answers i)) ≡ false → is_none (get_or answers i d) ≡ true
open_at [] i d within h = absurd (omega arith)
open_at (x ∷ xs) zero d within h = none_known x h
open_at (x ∷ xs) (suc i) d within h = open_at xs i d (omega arith) h

abbrev none_count : Option Line → ℕ
none_count a = cond (is_none a) 1 0

open_set : (answers : KnownLines) (i : ℕ) (line : Line) → i < length answers
    → is_some (option_and_then (λ a. a) (slice_get answers i)) ≡ false → open_answers (set answers i (Some line)) + 1 ≡ open_answers answers
open_set answers i line within h =
    let was : is_none (get_or answers i None) ≡ true = open_at answers i None within h in
    let one : none_count (get_or answers i None) ≡ 1 = ap (λ b. cond b 1 0) was in
    let sums : open_answers (set answers i (Some line)) + none_count (get_or answers i None) ≡ open_answers answers + 0 = sum_by-set none_count answers i (Some line) None within in
    omega (arith, sums, one)

for_set : (trace : List TraceLine) (answers : KnownLines) (i : ℕ) (line : TraceLine) (printed : Line) → slice_get trace i ≡ Some line → IsLineFor line printed → AreFor trace answers → AreFor trace (set answers i (Some printed))
for_set [] [] i line printed at fits all = absurd (cc)
for_set [] (y ∷ ys) i line printed at fits all = absurd all
for_set (x ∷ xs) [] i line printed at fits all = absurd all
for_set (x ∷ xs) (y ∷ ys) zero line printed at fits all = (let same : line ≡ x = cc in subst (λ l. IsLineFor l printed) same fits, all.1)
for_set (x ∷ xs) (y ∷ ys) (suc i) line printed at fits all = (all.0, for_set xs ys i line printed at fits all.1)

-- the request with a ticket

pub record Asked (fact : Request → Type 0) (ticket : ℕ) (want : Want) : Type 0 where
  pub request : Request
  pub holds : fact request
  pub ticket_is : request.ticket ≡ ticket
  pub want_is : request.want ≡ want

pub asked : (fact : Request → Type 0) (requests : List Request) (ticket : ℕ) (want : Want) → AllByRecursion fact requests
    → want_at requests ticket ≡ Some want → Asked fact ticket want
asked fact [] ticket want all h = absurd (cc)
asked fact (r ∷ rs) ticket want all h = by (r.ticket == ticket) refl h (λ k. asked fact rs ticket want all.1 k)
  where
    by : (b : Bool) → (r.ticket == ticket) ≡ b → option_map (λ request. request.want) (cond b (Some r) (find (λ request. request.ticket == ticket) rs)) ≡ Some want
        → (want_at rs ticket ≡ Some want → Asked fact ticket want) → Asked fact ticket want
    by true e k later = record { request = r; holds = all.0; ticket_is = eqb-true _ _ e; want_is = cc }
    by false e k later = later k

-- what one reply that shows nothing made of the answers

pub record TookOne (batch : Batch) (reply : Reply) (old new : KnownLines) : Type 0 where
  pub want : Want
  pub line : Line
  pub at : want_at batch.requests reply.ticket ≡ Some want
  pub unknown : is_answered old reply.ticket ≡ false
  pub means : line_of want reply ≡ Some line
  pub made : new ≡ set old (reply.ticket - 1) (Some line)

took_line : (batch : Batch) (reply : Reply) (old new : KnownLines) (want : Want) (line : Option Line) → want_at batch.requests reply.ticket ≡ Some want → is_answered old reply.ticket ≡ false → line_of want reply ≡ line
    → by_line line reply old ≡ Ok new → TookOne batch reply old new
took_line batch reply old new want None at unknown means h = absurd (cc)
took_line batch reply old new want (Some line) at unknown means h = record { want = want; line = line; at = at; unknown = unknown; means = means; made = cc }

took_want : (batch : Batch) (reply : Reply) (old new : KnownLines) (want : Option Want) → want_at batch.requests reply.ticket ≡ want → by_want want reply old ≡ Ok new → TookOne batch reply old new
took_want batch reply old new None at h = absurd (cc)
took_want batch reply old new (Some want) at h = by (is_answered old reply.ticket) refl h
  where
    by : (b : Bool) → is_answered old reply.ticket ≡ b → cond b (Err (Double reply.ticket)) (by_line (line_of want reply) reply old) ≡ Ok new → TookOne batch reply old new
    by true e k = absurd (cc)
    by false e k = took_line batch reply old new want (line_of want reply) at e refl k

pub took_one : (batch : Batch) (number : ℕ) (reply : Reply) (old new : KnownLines) → after_one batch number reply old ≡ Ok new → TookOne batch reply old new
took_one batch number reply old new h = by (number == batch.number) refl h
  where
    by : (b : Bool) → (number == batch.number) ≡ b → cond b (by_want (want_at batch.requests reply.ticket) reply old) (Err (Stranger reply.ticket)) ≡ Ok new → TookOne batch reply old new
    by true e k = took_want batch reply old new (want_at batch.requests reply.ticket) refl k
    by false e k = absurd (cc)

-- the line of a reply is one for the line that was asked

all_printable : (value : List ℕ) → list_all is_printable value ≡ true → AllByRecursion (λ b. (32 ≤ b) × (b ≤ 126)) value
all_printable [] h = tt
all_printable (b ∷ bs) h =
    let parts = and_parts (is_printable b) (list_all is_printable bs) h in
    let both = and_parts (nat_le 32 b) (nat_le b 126) parts.0 in
    ((leb-true 32 b both.0, leb-true b 126 both.1), all_printable bs parts.1)

-- what a status means for a write is an outcome of it, or nothing
record Outcomes (status : Status) : Type 0 where
  put : IfSome (outcome_of_put status) (HasOutcome PutOp)
  add : IfSome (outcome_of_add status) (HasOutcome AddOp)
  touch : IfSome (outcome_of_touch status) (HasOutcome TouchOp)
  del : IfSome (outcome_of_del status) (HasOutcome DelOp)

outcomes : (status : Status) → Outcomes status
outcomes status.Hit = record { put = tt; add = tt; touch = tt; del = tt }
outcomes status.Miss = record { put = tt; add = tt; touch = tt; del = tt }
outcomes status.Stored = record { put = tt; add = tt; touch = tt; del = tt }
outcomes status.Deleted = record { put = tt; add = tt; touch = tt; del = tt }
outcomes status.Absent = record { put = tt; add = tt; touch = tt; del = tt }
outcomes status.FullSpare = record { put = tt; add = tt; touch = tt; del = tt }
outcomes status.FullBlock = record { put = tt; add = tt; touch = tt; del = tt }
outcomes status.Worn = record { put = tt; add = tt; touch = tt; del = tt }
outcomes status.BadBatch = record { put = tt; add = tt; touch = tt; del = tt }
outcomes status.LongHit = record { put = tt; add = tt; touch = tt; del = tt }
outcomes status.Exists = record { put = tt; add = tt; touch = tt; del = tt }
outcomes status.Touched = record { put = tt; add = tt; touch = tt; del = tt }

-- a report line of the operation's kind
abbrev pub IsFor : TraceOp → Line → Type 0
IsFor asked line = IsReportLine line × IsKindOf asked line

wrote_line : (asked : TraceOp) (does : Op) (stamp : ℕ) (outcome : Option Outcome) (line : Line) → op_of asked ≡ Some does → IfSome outcome (HasOutcome does)
    → option_map (wrote does stamp) outcome ≡ Some line → IsFor asked line
wrote_line asked does stamp None line kind has h = absurd (cc)
wrote_line asked does stamp (Some o) line kind has h =
    let same : wrote does stamp o ≡ line = cc in
    subst (IsFor asked) same (has, subst (λ k. IsReplyTo k does) (sym kind) refl)

hit : (stamp : ℕ) (value : List ℕ) (b : Bool) → list_all is_printable value ≡ b → ValueFits value → (line : Line) → cond b (Some (Hit stamp value)) None ≡ Some line → IsFor op.Get line
hit stamp value true e short line k = let same : Hit stamp value ≡ line = cc in subst (IsFor op.Get) same ((short, all_printable value e), tt)
hit stamp value false e short line k = absurd (cc)

got : (status : Status) (stamp : ℕ) (value : List ℕ) → length value ≤ longest_value VERSION (status_byte status) → (line : Line) → line_got status stamp value ≡ Some line → IsFor op.Get line
unfolding status_byte
got status.Hit stamp value short line h = hit stamp value (list_all is_printable value) refl short line h
got status.Miss stamp value short line h = let same : Miss stamp ≡ line = cc in subst (IsFor op.Get) same (tt, tt)
got status.Stored stamp value short line h = absurd (cc)
got status.Deleted stamp value short line h = absurd (cc)
got status.Absent stamp value short line h = absurd (cc)
got status.FullSpare stamp value short line h = absurd (cc)
got status.FullBlock stamp value short line h = absurd (cc)
got status.Worn stamp value short line h = absurd (cc)
got status.BadBatch stamp value short line h = absurd (cc)
got status.LongHit stamp value short line h = absurd (cc)
got status.Exists stamp value short line h = absurd (cc)
got status.Touched stamp value short line h = absurd (cc)

kind_line : (reply : Reply) (line : Line) → IsReply VERSION reply → (asked : TraceOp) → IfSome (want_of asked) (λ want. line_of want reply ≡ Some line → IsFor asked line)
kind_line reply line lawful op.Put = wrote_line op.Put PutOp reply.stamp (outcome_of_put reply.status) line refl (outcomes reply.status).put
kind_line reply line lawful op.Add = wrote_line op.Add AddOp reply.stamp (outcome_of_add reply.status) line refl (outcomes reply.status).add
kind_line reply line lawful op.Touch = wrote_line op.Touch TouchOp reply.stamp (outcome_of_touch reply.status) line refl (outcomes reply.status).touch
kind_line reply line lawful op.Del = wrote_line op.Del DelOp reply.stamp (outcome_of_del reply.status) line refl (outcomes reply.status).del
kind_line reply line lawful op.Get = got reply.status reply.stamp reply.value lawful.value line
kind_line reply line lawful op.Sync = tt

op_line : (asked : TraceOp) (want : Want) (reply : Reply) (line : Line) → want_of asked ≡ Some want → IsReply VERSION reply → line_of want reply ≡ Some line → IsFor asked line
op_line asked want reply line is lawful h = subst (λ w. IfSome w (λ want. line_of want reply ≡ Some line → IsFor asked line)) is (kind_line reply line lawful asked) h

-- one reply

pub same_tickets : {requests : List Request} {a b : ℕ} → a ≡ b → HasTickets a requests → HasTickets b requests
same_tickets {requests} same has = subst (λ (n : ℕ). HasTickets n requests) same has

pub record KeepsOne (requests : List Request) (old new : KnownLines) : Type 0 where
  pub keeps : KeepsAnswers requests old new
  pub one_less : open_answers new + 1 ≡ open_answers old

pub keeps_one : (batch : Batch) (reply : Reply) (old new : KnownLines) → TookOne batch reply old new → IsReply VERSION reply → HasTickets (length old) batch.requests → KeepsOne batch.requests old new
keeps_one batch reply old new took lawful tickets =
    let t = reply.ticket in
    let found = asked (HasTicketIn (length old)) batch.requests t took.want (recursion_from_All _ batch.requests tickets.within) took.at in
    let low : 1 ≤ t = subst (λ n. 1 ≤ n) found.ticket_is found.holds.0 in
    let high : t ≤ length old = subst (λ n. n ≤ length old) found.ticket_is found.holds.1 in
    let made = took.made in
    record {
      keeps = record {
        len = ap length made ∙ length-set old (t - 1) (Some took.line);
        known = λ n h. subst (λ a. is_answered a n ≡ true) (sym made) (known_set old (t - 1) took.line (n - 1) h);
        lines = λ trace of so_far. subst (AreFor trace) (sym made) (lawful_line batch reply old took lawful trace of so_far);
      };
      one_less = subst (λ a. open_answers a + 1 ≡ open_answers old) (sym made) (open_set old (t - 1) took.line (omega arith) took.unknown);
    }
  where
    lawful_line : (batch : Batch) (reply : Reply) (old : KnownLines) {new : KnownLines} (took : TookOne batch reply old new) → IsReply VERSION reply → (trace : List TraceLine) → AllByRecursion (IsOfTrace trace) batch.requests
        → AreFor trace old → AreFor trace (set old (reply.ticket - 1) (Some took.line))
    lawful_line batch reply old took lawful trace of so_far =
        let found = asked (IsOfTrace trace) batch.requests reply.ticket took.want of took.at in
        let h = found.holds in
        let line = of_line h.place h.line found.request h.is in
        let place : reply.ticket - 1 ≡ h.place = omega (arith, line.ticket, found.ticket_is) in
        for_set trace old (reply.ticket - 1) h.line took.line (ap (slice_get trace) place ∙ h.at)
        (op_line h.line.op took.want reply took.line (line.want ∙ ap (λ (w : Want). Some w) found.want_is) lawful took.means) so_far

-- a datagram of replies

pub record KeepsMany (requests : List Request) (many : ℕ) (old new : KnownLines) : Type 0 where
  pub keeps : KeepsAnswers requests old new
  pub less : open_answers new + many ≡ open_answers old

pub keeps_none : (requests : List Request) (answers : KnownLines) → KeepsAnswers requests answers answers
keeps_none requests answers = record { len = refl; known = λ t h. h; lines = λ trace of h. h }

pub keeps_both : (requests : List Request) (a b c : KnownLines) → KeepsAnswers requests a b → KeepsAnswers requests b c → KeepsAnswers requests a c
keeps_both requests a b c x y = record {
  len = y.len ∙ x.len;
  known = λ t h. y.known t (x.known t h);
  lines = λ trace of h. y.lines trace of (x.lines trace of h);
}

keeps_replies : (batch : Batch) (number : ℕ) (replies : List Reply) (old new : KnownLines) → after_replies batch number replies old ≡ Ok new
    → AllByRecursion (IsReply VERSION) replies → HasTickets (length old) batch.requests → KeepsMany batch.requests (length replies) old new
keeps_replies batch number [] old new h lawful tickets =
    let same : old ≡ new = cc in
    record {
      keeps = subst (KeepsAnswers batch.requests old) same (keeps_none batch.requests old);
      less = let e : open_answers new ≡ open_answers old = ap (λ (a : KnownLines). open_answers a) (sym same) in omega (arith, e);
    }
keeps_replies batch number (r ∷ rs) old new h lawful tickets =
    by (after_one batch number r old) refl h (λ mid k t. keeps_replies batch number rs mid new k lawful.1 t)
  where
    by : (x : Result KnownLines AskFault) → after_one batch number r old ≡ x → go_on x (after_replies batch number rs) ≡ Ok new
        → ((mid : KnownLines) → after_replies batch number rs mid ≡ Ok new → HasTickets (length mid) batch.requests → KeepsMany batch.requests (length rs) mid new)
        → KeepsMany batch.requests (length (r ∷ rs)) old new
    by (Err fault) e k later = absurd (cc)
    by (Ok mid) e k later =
        let first = keeps_one batch r old mid (took_one batch number r old mid e) lawful.0 tickets in
        let rest = later mid k (same_tickets (sym first.keeps.len) tickets) in
        record { keeps = keeps_both batch.requests old mid new first.keeps rest.keeps; less = omega (arith, first.one_less, rest.less) }

-- a lawful datagram of them
pub keeps_lawful : (batch : Batch) (replies : Replies) (old new : KnownLines) → after_replies batch replies.number replies.replies old ≡ Ok new → IsReplies replies → replies.version ≡ VERSION
    → HasTickets (length old) batch.requests → KeepsMany batch.requests (length replies.replies) old new
keeps_lawful batch replies old new made lawful version tickets =
    keeps_replies batch replies.number replies.replies old new made (recursion_from_All (IsReply VERSION) _ (subst (λ v. All (IsReply v) replies.replies) version lawful.each)) tickets

-- the ticket of a request of the batch is that of a line
pub ticket_in : (lines : ℕ) (requests : List Request) (ticket : ℕ) (want : Want) → HasTickets lines requests → want_at requests ticket ≡ Some want → (1 ≤ ticket) × (ticket ≤ lines)
ticket_in lines requests ticket want all h =
    let found = asked (HasTicketIn lines) requests ticket want (recursion_from_All _ requests all.within) h in
    (subst (λ (n : ℕ). 1 ≤ n) found.ticket_is found.holds.0, subst (λ (n : ℕ). n ≤ lines) found.ticket_is found.holds.1)
