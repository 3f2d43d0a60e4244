-- What calls move, and how often a connection is asked for again.
use Rattle.std.proofs.Common.{◌≡◌, inl, inr, ℕ, suc, ◌+◌, ◌<◌, ◌≤◌, ◌==◌, Bool, true, false, cond, List, [], ◌∷◌, ◌++◌, length, refl, ap, ◌∙◌, arith, length-append}
use Rattle.std.specs.Prelude.{Option, Ok}
use Rattle.std.specs.List.{AllByRecursion}
use Rattle.std.proofs.lemmas.Bool.{eq-eqb}
use Rattle.partition_model.specs.declared.options.Options.{Options}
use Rattle.memcached_requests.specs.Next.{next_of}
use Rattle.connections.specs.declared.connections.Input.{Input}
use Rattle.connections.specs.State.{Entry, opened, reported, turned_away, met, second, received, sent, asked, closed}
use Rattle.connections.specs.Log.{Log, received_of, sent_of}
use Rattle.fronts.specs.Answered.{Answered}
use Rattle.connection_loop.specs.declared.answer.Halt.{Halt}
use Rattle.connection_loop.specs.declared.client.Client.{Client}
use Rattle.connection_loop.specs.Reached.{Position, position_of}
use Rattle.connection_loop.specs.Held.{IsAtRest, KeepsWhole, Looks}
use Rattle.connection_loop.specs.Traffic.{IsSend, Sends, Reads, after_receiving}
use Rattle.connection_loop.specs.Turns.{GrowsBy, asks_of, moved}
use Rattle.connection_loop.proofs.Traffic.{sends_received, mets_sent, mets_received, mets_send}

-- Calls behind others

once_more : (b : Bool) (all some rest : ℕ) → all ≡ some + rest → cond b (suc all) all ≡ cond b (suc some) some + rest
once_more true all some rest is = omega (arith, is)
once_more false all some rest is = is

pub asks_append : (c : ℕ) (calls rest : List Entry) → asks_of c (calls ++ rest) ≡ asks_of c calls + asks_of c rest
asks_append c [] rest = omega arith
asks_append c (asked d ∷ calls) rest = once_more (d == c) (asks_of c (calls ++ rest)) (asks_of c calls) (asks_of c rest) (asks_append c calls rest)
asks_append c (opened n ∷ calls) rest = asks_append c calls rest
asks_append c (reported n ∷ calls) rest = asks_append c calls rest
asks_append c (turned_away ∷ calls) rest = asks_append c calls rest
asks_append c (second s ∷ calls) rest = asks_append c calls rest
asks_append c (met ∷ calls) rest = asks_append c calls rest
asks_append c (received d bytes ∷ calls) rest = asks_append c calls rest
asks_append c (sent d bytes ∷ calls) rest = asks_append c calls rest
asks_append c (closed d ∷ calls) rest = asks_append c calls rest

-- bytes behind others, or none
longer_by : (b : Bool) (all some rest bytes : List ℕ) → length all ≡ length some + length rest → length (cond b (all ++ bytes) all) ≡ length (cond b (some ++ bytes) some) + length rest
longer_by true all some rest bytes is = let one = length-append all bytes in let two = length-append some bytes in omega (arith, is, one, two)
longer_by false all some rest bytes is = is

received_append : (c : ℕ) (calls rest : List Entry) → length (received_of c (calls ++ rest)) ≡ length (received_of c calls) + length (received_of c rest)
received_append c [] rest = omega arith
received_append c (received d bytes ∷ calls) rest = longer_by (d == c) (received_of c (calls ++ rest)) (received_of c calls) (received_of c rest) bytes (received_append c calls rest)
received_append c (opened n ∷ calls) rest = received_append c calls rest
received_append c (reported n ∷ calls) rest = received_append c calls rest
received_append c (turned_away ∷ calls) rest = received_append c calls rest
received_append c (second s ∷ calls) rest = received_append c calls rest
received_append c (met ∷ calls) rest = received_append c calls rest
received_append c (sent d bytes ∷ calls) rest = received_append c calls rest
received_append c (asked d ∷ calls) rest = received_append c calls rest
received_append c (closed d ∷ calls) rest = received_append c calls rest

sent_append : (c : ℕ) (calls rest : List Entry) → length (sent_of c (calls ++ rest)) ≡ length (sent_of c calls) + length (sent_of c rest)
sent_append c [] rest = omega arith
sent_append c (sent d bytes ∷ calls) rest = longer_by (d == c) (sent_of c (calls ++ rest)) (sent_of c calls) (sent_of c rest) bytes (sent_append c calls rest)
sent_append c (opened n ∷ calls) rest = sent_append c calls rest
sent_append c (reported n ∷ calls) rest = sent_append c calls rest
sent_append c (turned_away ∷ calls) rest = sent_append c calls rest
sent_append c (second s ∷ calls) rest = sent_append c calls rest
sent_append c (met ∷ calls) rest = sent_append c calls rest
sent_append c (received d bytes ∷ calls) rest = sent_append c calls rest
sent_append c (asked d ∷ calls) rest = sent_append c calls rest
sent_append c (closed d ∷ calls) rest = sent_append c calls rest

pub moved_append : (c : ℕ) (calls rest : List Entry) → moved c (calls ++ rest) ≡ moved c calls + moved c rest
moved_append c calls rest = let one = received_append c calls rest in let two = sent_append c calls rest in omega (arith, one, two)

-- no call takes bytes back
pub grows_moved : {reads : ℕ} {old new : List Entry} → GrowsBy reads old new → (c : ℕ) → moved c old ≤ moved c new
grows_moved {old = old} grows c = let all = ap (moved c) grows.1 ∙ moved_append c grows.0 old in omega (arith, all)

-- Sends and reads ask for none again

asks_sends : (c : ℕ) (more entries : List Entry) → AllByRecursion (IsSend c) more → (d : ℕ) → asks_of d (more ++ entries) ≡ asks_of d entries
asks_sends c [] entries each d = refl
asks_sends c (met ∷ more) entries each d = asks_sends c more entries each.1 d
asks_sends c (sent e bytes ∷ more) entries each d = asks_sends c more entries each.1 d
asks_sends c (opened n ∷ more) entries each d = absurd each.0
asks_sends c (reported n ∷ more) entries each d = absurd each.0
asks_sends c (turned_away ∷ more) entries each d = absurd each.0
asks_sends c (second s ∷ more) entries each d = absurd each.0
asks_sends c (received e bytes ∷ more) entries each d = absurd each.0
asks_sends c (asked e ∷ more) entries each d = absurd each.0
asks_sends c (closed e ∷ more) entries each d = absurd each.0

pub sends_unasked : {c : ℕ} {text : List ℕ} {old new : Log} → Sends c text old new → (d : ℕ) → asks_of d new.entries ≡ asks_of d old.entries
sends_unasked {c} {text} {old} sends d = ap (asks_of d) sends.entries ∙ asks_sends c sends.more old.entries sends.each d

asks_receiving : (t c d : ℕ) (bytes : List ℕ) (entries : List Entry) → asks_of d (after_receiving t c bytes entries) ≡ asks_of d entries
asks_receiving t c d [] entries = refl
asks_receiving t c d (byte ∷ bytes) entries = refl

pub reads_unasked : {c : ℕ} {bytes : List ℕ} {old new : Log} → Reads c bytes old new → (d : ℕ) → asks_of d new.entries ≡ asks_of d old.entries
reads_unasked {c} {bytes} {old} reads d =
    ap (asks_of d) reads.entries ∙ asks_receiving reads.at c d bytes (reads.mets ++ old.entries) ∙ asks_sends c reads.mets old.entries (mets_send c reads.mets reads.each) d

-- What they move

pub sends_moved : {c : ℕ} {text : List ℕ} {old new : Log} → Sends c text old new → moved c new.entries ≡ moved c old.entries + length text
sends_moved {c} {text} {old} sends =
    let came = ap length (ap (received_of c) sends.entries ∙ sends_received c sends.more old.entries sends.each c) in
    let went = ap length sends.sent ∙ length-append (sent_of c old.entries) text in
    omega (arith, came, went)

moved_receiving : (t c : ℕ) (bytes : List ℕ) (entries : List Entry) → moved c (after_receiving t c bytes entries) ≡ moved c entries + length bytes
moved_receiving t c [] entries = omega arith
moved_receiving t c (byte ∷ bytes) entries =
    let came = ap (λ t. length (cond t (received_of c entries ++ byte ∷ bytes) (received_of c entries))) (eq-eqb c c refl) ∙ length-append (received_of c entries) (byte ∷ bytes) in
    omega (arith, came)

pub reads_moved : {c : ℕ} {bytes : List ℕ} {old new : Log} → Reads c bytes old new → moved c new.entries ≡ moved c old.entries + length bytes
reads_moved {c} {bytes} {old} reads =
    let all = ap (moved c) reads.entries ∙ moved_receiving reads.at c bytes (reads.mets ++ old.entries) in
    let came = ap length (mets_received c reads.mets old.entries reads.each) in
    let went = ap length (mets_sent c reads.mets old.entries reads.each) in
    omega (arith, all, came, went)

-- Replies that waited were sent, the connection was looked at, and the replies to that were sent: where there is more to do at once, it was for something.
pub looked_earns : (options : Options) (base : ℕ) {c : ℕ} {old mid log new : Log} {text sent : List ℕ} (client now then last : Client) (answers : List Answered) (replies : List ℕ)
    (r : Halt × Option Input) → position_of now ≡ position_of client → position_of last ≡ position_of then → Sends c text old mid
    → Looks options base now answers replies then (Ok r) c mid log → Sends c sent log new → length replies ≤ length sent → (IsAtRest r.0 r.1 → ⊥) → KeepsWhole client last
    → moved c old.entries < moved c new.entries + length answers
looked_earns options base {c} {old} {mid} {log} {new} {text} {sent} client now then last answers replies r here there sends looks then_sends all busy whole =
    elim looks as (λ _. moved c old.entries < moved c new.entries + length answers) [
      | inl further ↦ let two = ap (λ (l : Log). moved c l.entries) further.same in elim (further.earns whole_now) as (λ _. moved c old.entries < moved c new.entries + length answers) [
        | inl rest ↦ absurd (busy rest)
        | inr some ↦ omega (arith, one, two, three, all, some)
      ]
      | inr read ↦ let two = reads_moved read.reads in elim (read.earns whole_now) as (λ _. moved c old.entries < moved c new.entries + length answers) [
        | inl rest ↦ absurd (busy rest)
        | inr some ↦ omega (arith, one, two, three, all, some)
      ]
    ]
  where
    whole_now : KeepsWhole now then
    whole_now more = ap (λ (p : Position). next_of p.bytes) here ∙ whole (ap (λ (p : Position). next_of p.bytes) there ∙ more)

    one : moved c mid.entries ≡ moved c old.entries + length text
    one = sends_moved sends

    three : moved c new.entries ≡ moved c log.entries + length sent
    three = sends_moved then_sends
