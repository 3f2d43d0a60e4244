-- What calls for one connection make of a log.
use Rattle.std.proofs.Common.{◌≡◌, ℕ, ◌+◌, ◌<◌, cond, List, [], ◌∷◌, ◌++◌, length, take, drop, refl, sym, ap, ◌∙◌, subst, arith, append_assoc, length-drop}
use Rattle.std.specs.Prelude.{slice_get, Option, Some, None, Result, Ok, Err, IfSome}
use Rattle.std.specs.List.{AllByRecursion}
use Rattle.std.proofs.Math.Seq.{take-add}
use Rattle.std.proofs.lemmas.List.{append-nil}
use Rattle.std.proofs.lemmas.Bool.{eq-eqb}
use Rattle.connections.specs.declared.schedule.Step.{Step}
use Rattle.connections.specs.declared.schedule.Step.TheVariants.{Opens, TurnsAway, Reports, Happens}
use Rattle.connections.specs.declared.connections.Broken.{Broken}
use Rattle.connections.specs.Connection.{Connection, after_change, after_write}
use Rattle.connections.specs.State.{Entry, opened, reported, turned_away, met, second, received, sent, asked, closed, State, held, state_after, after_meeting}
use Rattle.connections.specs.Log.{Log, connections_of, state_of, received_of, sent_of, with_entries, after_met, after_meeting_one}
use Rattle.connections.specs.Calls.{WriteTakes, IsTaken, took, after_sending}
use Rattle.command_answers.proofs.AskLaws.{all_append}
use Rattle.connection_loop.specs.Open.{IsAt, IsOpen, OnLogs}
use Rattle.connection_loop.specs.Traffic.{IsSend, Sends, IsIn, IsBroken, IsShut, IsShutIn, SendsOf, SendsSome, SendsFrom, OnHeld}
use Rattle.connection_loop.proofs.Places.{changed_keeps, there}
use Rattle.connection_loop.proofs.Opening.{met_at, change_keeps, write_keeps, found}

-- Which bytes

-- a connection has its own bytes
pub sent_here : (c d : ℕ) (bytes : List ℕ) (entries : List Entry) → d ≡ c → sent_of c (sent d bytes ∷ entries) ≡ sent_of c entries ++ bytes
sent_here c d bytes entries same = ap (λ t. cond t (sent_of c entries ++ bytes) (sent_of c entries)) (eq-eqb d c same)

-- A step that is met is one entry, or none.
pub met_entries : (later : List Step) (entries : List Entry) → (mets : List Entry) × AllByRecursion (λ e. e ≡ met) mets × (after_meeting_one later entries ≡ mets ++ entries)
met_entries [] entries = ([], tt, refl)
met_entries (Opens window bytes ∷ later) entries = ([], tt, refl)
met_entries (TurnsAway ∷ later) entries = ([], tt, refl)
met_entries (Reports c change ∷ later) entries = ([], tt, refl)
met_entries (Happens c change ∷ later) entries = (met ∷ [], (refl, tt), refl)

pub mets_send : (c : ℕ) (mets : List Entry) → AllByRecursion (λ e. e ≡ met) mets → AllByRecursion (IsSend c) mets
mets_send c [] each = tt
mets_send c (e ∷ mets) each = (subst (IsSend c) (sym each.0) tt, mets_send c mets each.1)

-- where steps are met, no bytes move
pub mets_sent : (c : ℕ) (mets entries : List Entry) → AllByRecursion (λ e. e ≡ met) mets → sent_of c (mets ++ entries) ≡ sent_of c entries
mets_sent c [] entries each = refl
mets_sent c (e ∷ mets) entries each = ap (λ x. sent_of c (x ∷ (mets ++ entries))) each.0 ∙ mets_sent c mets entries each.1

pub mets_received : (c : ℕ) (mets entries : List Entry) → AllByRecursion (λ e. e ≡ met) mets → received_of c (mets ++ entries) ≡ received_of c entries
mets_received c [] entries each = refl
mets_received c (e ∷ mets) entries each = ap (λ x. received_of c (x ∷ (mets ++ entries))) each.0 ∙ mets_received c mets entries each.1

pub sends_received : (c : ℕ) (more entries : List Entry) → AllByRecursion (IsSend c) more → (d : ℕ) → received_of d (more ++ entries) ≡ received_of d entries
sends_received c [] entries each d = refl
sends_received c (met ∷ more) entries each d = sends_received c more entries each.1 d
sends_received c (sent e bytes ∷ more) entries each d = sends_received c more entries each.1 d
sends_received c (opened n ∷ more) entries each d = absurd each.0
sends_received c (reported n ∷ more) entries each d = absurd each.0
sends_received c (turned_away ∷ more) entries each d = absurd each.0
sends_received c (second s ∷ more) entries each d = absurd each.0
sends_received c (received e bytes ∷ more) entries each d = absurd each.0
sends_received c (asked e ∷ more) entries each d = absurd each.0
sends_received c (closed e ∷ more) entries each d = absurd each.0

-- Sends, one after another

pub sends_none : (c : ℕ) (log : Log) → Sends c [] log log
sends_none c log = record { schedule = refl; piece = refl; more = []; each = tt; entries = refl; sent = sym (append-nil (sent_of c log.entries)) }

pub sends_then : {c : ℕ} {one two : List ℕ} {old between new : Log} → Sends c one old between → Sends c two between new → Sends c (one ++ two) old new
sends_then {c} {one} {two} {old} {between} {new} first behind = record {
  schedule = behind.schedule ∙ first.schedule;
  piece = behind.piece ∙ first.piece;
  more = behind.more ++ first.more;
  each = all_append (IsSend c) behind.more first.more behind.each first.each;
  entries = behind.entries ∙ ap (λ e. behind.more ++ e) first.entries ∙ sym (append_assoc behind.more first.more old.entries);
  sent = behind.sent ∙ ap (λ s. s ++ two) first.sent ∙ append_assoc (sent_of c old.entries) one two;
}

-- a write is told by one entry, or none
wrote : (c : ℕ) (bytes : List ℕ) (entries : List Entry)
    → (more : List Entry) × AllByRecursion (IsSend c) more × (after_sending c bytes entries ≡ more ++ entries) × (sent_of c (after_sending c bytes entries) ≡ sent_of c entries ++ bytes)
wrote c [] entries = ([], tt, refl, sym (append-nil (sent_of c entries)))
wrote c (byte ∷ bytes) entries = (sent c (byte ∷ bytes) ∷ [], (refl, tt), refl, sent_here c c (byte ∷ bytes) entries refl)

-- steps that are met
pub meets : (c : ℕ) (log : Log) → Sends c [] log (after_met log)
meets c log =
    let m = met_entries (state_of log).later log.entries in record {
      schedule = refl;
      piece = refl;
      more = m.0;
      each = mets_send c m.0 m.1;
      entries = m.2;
      sent = ap (sent_of c) m.2 ∙ mets_sent c m.0 log.entries m.1 ∙ sym (append-nil (sent_of c log.entries));
    }

sends_wrote : (c : ℕ) (bytes : List ℕ) (log : Log) → Sends c bytes log (with_entries (after_sending c bytes) log)
sends_wrote c bytes log = let w = wrote c bytes log.entries in record { schedule = refl; piece = refl; more = w.0; each = w.1; entries = w.2; sent = w.3 }

-- So much of a text was sent, and none only where the peer takes no more; or the connection is broken.
abbrev pub Writes : List ℕ → Result ℕ Broken → ℕ → Log → Log → Type 0
Writes text (Ok n) c old new = Sends c (take n text) old new × (n ≡ 0 → 0 < length text → IsShutIn c new)
Writes text (Err broken) c old new = SendsSome text c old new × IsIn IsBroken c new

-- where a write takes nothing, the peer takes no more
none_taken : (c : ℕ) (bytes : List ℕ) (n : ℕ) (log : Log) (x : Connection) → slice_get (connections_of log) c ≡ Some x → IsTaken x log.script.piece bytes (Ok n) → n ≡ 0 → 0 < length bytes
    → IsShutIn c (with_entries (took c bytes (Ok n)) log)
none_taken c bytes n log x is taken none some moving =
    let shut : x.window ≡ 0 = let count = taken.1 in omega (arith, count, none, some, moving) in
    subst (λ m. IfSome (slice_get (connections_of (with_entries (took c bytes (Ok m)) log)) c) IsShut) (sym none)
    (subst (λ o. IfSome o IsShut) (sym is) (record { shut = shut; whole = taken.0 }))

-- what one write makes of the log, and that it is broken where the write says so
took_sends : (c : ℕ) (bytes : List ℕ) (answer : Result ℕ Broken) (log : Log) (x : Connection) → slice_get (connections_of log) c ≡ Some x → IsTaken x log.script.piece bytes answer
    → Writes bytes answer c log (with_entries (took c bytes answer) log)
took_sends c bytes (Ok n) log x is taken = (sends_wrote c (take n bytes) log, none_taken c bytes n log x is taken)
took_sends c bytes (Err broken) log x is taken = ((0, sends_none c log), subst (λ o. IfSome o IsBroken) (sym is) taken)

-- steps that were met before
after_met_sends : (c : ℕ) (bytes : List ℕ) (answer : Result ℕ Broken) (old new : Log) → Writes bytes answer c (after_met old) new → Writes bytes answer c old new
after_met_sends c bytes (Ok n) old new writes = (sends_then (meets c old) writes.0, writes.1)
after_met_sends c bytes (Err broken) old new writes = ((writes.0.0, sends_then (meets c old) writes.0.1), writes.1)

-- what one call of `write` makes of a log
pub write_sends : (number : ℕ) (bytes : List ℕ) (answer : Result ℕ Broken) (old : Log) (new : Option Log) (c : ℕ) → held number (connections_of old) ≡ Some c
    → WriteTakes number bytes answer old new → (made : Log) × (new ≡ Some made) × Writes bytes answer c old made
write_sends number bytes answer old new c is takes =
    let at = met_at old number c 0 (is, omega arith) in
    let x = there number c (connections_of (after_met old)) at.0 in
    let g = found _ (held number (connections_of old)) c is takes in
    let g' = found _ (slice_get (connections_of (after_met old)) c) x.0 x.1 g in (
      with_entries (took c bytes answer) (after_met old),
      g'.1,
      after_met_sends c bytes answer old (with_entries (took c bytes answer) (after_met old)) (took_sends c bytes answer (after_met old) x.0 x.1 g'.0),
    )

-- What stays

module _ (n d a : ℕ) where
  met_stays : (state : State) (later : List Step) → IsAt n d a state.connections → IsAt n d a (after_meeting state later).connections
  met_stays state [] at = at
  met_stays state (Opens window bytes ∷ later) at = at
  met_stays state (TurnsAway ∷ later) at = at
  met_stays state (Reports c change ∷ later) at = at
  met_stays state (Happens c change ∷ later) at = changed_keeps (after_change change) (change_keeps change) c state.connections n d a at

  sends_stay : (c : ℕ) (schedule : List Step) (more entries : List Entry) → AllByRecursion (IsSend c) more → IsAt n d a (state_after schedule entries).connections
      → IsAt n d a (state_after schedule (more ++ entries)).connections
  sends_stay c schedule [] entries each at = at
  sends_stay c schedule (met ∷ more) entries each at =
      let s = state_after schedule (more ++ entries) in met_stays s s.later (sends_stay c schedule more entries each.1 at)
  sends_stay c schedule (sent e bytes ∷ more) entries each at =
      changed_keeps (after_write (length bytes)) (write_keeps (length bytes)) e (state_after schedule (more ++ entries)).connections n d a (sends_stay c schedule more entries each.1 at)
  sends_stay c schedule (opened m ∷ more) entries each at = absurd each.0
  sends_stay c schedule (reported m ∷ more) entries each at = absurd each.0
  sends_stay c schedule (turned_away ∷ more) entries each at = absurd each.0
  sends_stay c schedule (second s ∷ more) entries each at = absurd each.0
  sends_stay c schedule (received e bytes ∷ more) entries each at = absurd each.0
  sends_stay c schedule (asked e ∷ more) entries each at = absurd each.0
  sends_stay c schedule (closed e ∷ more) entries each at = absurd each.0

-- what is under a number is there still
pub sends_held : {c : ℕ} {text : List ℕ} {old new : Log} → Sends c text old new → (n d : ℕ) → held n (connections_of old) ≡ Some d → held n (connections_of new) ≡ Some d
sends_held {c} {text} {old} {new} sends n d is =
    subst (λ (e : List Entry). held n (state_after new.schedule e).connections ≡ Some d) (sym sends.entries)
    (subst (λ (s : List Step). held n (state_after s (sends.more ++ old.entries)).connections ≡ Some d) (sym sends.schedule)
    (sends_stay n d 0 c old.schedule sends.more old.entries sends.each (is, omega arith)).0)

pub from_held : {X : Type 0} (before after : List ℕ) (c : ℕ) (old new : Log) (answer : Result X Broken) → SendsFrom before after answer c old new → (n d : ℕ)
    → held n (connections_of old) ≡ Some d → held n (connections_of new) ≡ Some d
from_held before after c old new (Ok all) sends n d is = sends_held sends.1 n d is
from_held before after c old new (Err broken) sends n d is = sends_held sends.0.1 n d is

-- One log after another

-- it leaves what is under a number
abbrev pub KeepsHeld : ℕ → (ℕ → Log → Log → Type 0) → Type 0
KeepsHeld number P = (c : ℕ) (a b : Log) → held number (connections_of a) ≡ Some c → P c a b → held number (connections_of b) ≡ Some c

module _ (number : ℕ) where
  -- of what was under the number, more can be said
  pub on_one : (P Q : ℕ → Log → Log → Type 0) (old new : Option Log) → ((c : ℕ) (a b : Log) → P c a b → Q c a b) → OnLogs (OnHeld number P) old new → OnLogs (OnHeld number Q) old new
  on_one P Q None new then is = tt
  on_one P Q (Some a) None then is = is
  on_one P Q (Some a) (Some b) then is = by (held number (connections_of a)) is
    where
      by : (h : Option ℕ) → IfSome h (λ c. P c a b) → IfSome h (λ c. Q c a b)
      by None is = tt
      by (Some c) is = then c a b is

  -- also by what is known of the log behind it
  pub on_told : (P Q : ℕ → Log → Log → Type 0) (R : Log → Type 0) (old new : Option Log) → IfSome new R → ((c : ℕ) (a b : Log) → R b → P c a b → Q c a b) → OnLogs (OnHeld number P) old new
      → OnLogs (OnHeld number Q) old new
  on_told P Q R None new told then is = tt
  on_told P Q R (Some a) None told then is = is
  on_told P Q R (Some a) (Some b) told then is = by (held number (connections_of a)) is
    where
      by : (h : Option ℕ) → IfSome h (λ c. P c a b) → IfSome h (λ c. Q c a b)
      by None is = tt
      by (Some c) is = then c a b told is

  -- and of the same connection, one after another
  pub on_two : (P Q R : ℕ → Log → Log → Type 0) (old between new : Option Log) → KeepsHeld number P → ((c : ℕ) (a b d : Log) → P c a b → Q c b d → R c a d)
      → OnLogs (OnHeld number P) old between → OnLogs (OnHeld number Q) between new → OnLogs (OnHeld number R) old new
  on_two P Q R None between new stays then first behind = tt
  on_two P Q R (Some a) None new stays then first behind = absurd first
  on_two P Q R (Some a) (Some b) None stays then first behind = absurd behind
  on_two P Q R (Some a) (Some b) (Some d) stays then first behind = by (held number (connections_of a)) refl first
    where
      by : (h : Option ℕ) → held number (connections_of a) ≡ h → IfSome h (λ c. P c a b) → IfSome h (λ c. R c a d)
      by None at is = tt
      by (Some c) at is = then c a b d is (found (λ e. Q e b d) (held number (connections_of b)) c (stays c a b at is) behind)

  pub on_three : (P Q R S : ℕ → Log → Log → Type 0) (old between later new : Option Log) → KeepsHeld number P → KeepsHeld number Q
      → ((c : ℕ) (a b d e : Log) → P c a b → Q c b d → R c d e → S c a e)
      → OnLogs (OnHeld number P) old between → OnLogs (OnHeld number Q) between later → OnLogs (OnHeld number R) later new → OnLogs (OnHeld number S) old new
  on_three P Q R S old between later new stays stays_then then first behind third =
      on_two (λ c a d. (b : Log) × P c a b × Q c b d) R S old later new (λ c a d at is. stays_then c is.0 d (stays c a is.0 at is.1) is.2)
      (λ c a d e is last. then c a is.0 d e is.1 is.2 last)
      (on_two P Q (λ c a d. (b : Log) × P c a b × Q c b d) old between later stays (λ c a b d one two. (b, one, two)) first behind) third

-- Writes, one after another

-- so much of a text was sent
abbrev pub SendsFirst : List ℕ → ℕ → ℕ → Log → Log → Type 0
SendsFirst text n c old new = Sends c (take n text) old new

-- What a call wrote, behind what was sent before.
abbrev pub WritesMore : List ℕ → ℕ → Result ℕ Broken → ℕ → Log → Log → Type 0
WritesMore text so_far (Ok n) c old new = SendsFirst text (so_far + n) c old new × (n ≡ 0 → so_far < length text → IsShutIn c new)
WritesMore text so_far (Err broken) c old new = SendsSome text c old new × IsIn IsBroken c new

wrote_then : (text : List ℕ) (so_far : ℕ) (answer : Result ℕ Broken) (c : ℕ) (first old new : Log) → Sends c (take so_far text) first old → Writes (drop so_far text) answer c old new
    → WritesMore text so_far answer c first new
wrote_then text so_far (Ok n) c first old new one two = (
  subst (λ t. Sends c t first new) (sym (take-add so_far n text)) (sends_then one two.0),
  λ none less. two.1 none (let len = length-drop so_far text in omega (arith, len, less)),
)
wrote_then text so_far (Err broken) c first old new one two =
    ((so_far + two.0.0, subst (λ t. Sends c t first new) (sym (take-add so_far two.0.0 text)) (sends_then one two.0.1)), two.1)

-- what one more write made of a log, where so much was sent before
pub wrote_more : (number asks : ℕ) (text piece : List ℕ) (so_far : ℕ) (answer : Result ℕ Broken) (first old new : Option Log) → piece ≡ drop so_far text → IfSome first (IsOpen number asks)
    → OnLogs (OnHeld number (SendsFirst text so_far)) first old → IfSome old (λ l. WriteTakes number piece answer l new)
    → OnLogs (OnHeld number (WritesMore text so_far answer)) first new
wrote_more number asks text piece so_far answer None old new piece_is stands before takes = tt
wrote_more number asks text piece so_far answer (Some a) None new piece_is stands before takes = absurd before
wrote_more number asks text piece so_far answer (Some a) (Some b) new piece_is stands before takes =
    let c = stands.0 in
    let one = found (λ d. Sends d (take so_far text) a b) (held number (connections_of a)) c stands.1.0 before in
    let made = write_sends number (drop so_far text) answer b new c (sends_held one number c stands.1.0) (subst (λ p. WriteTakes number p answer b new) piece_is takes) in
    subst (λ o. OnLogs (OnHeld number (WritesMore text so_far answer)) (Some a) o) (sym made.1)
    (subst (λ h. IfSome h (λ d. WritesMore text so_far answer d a made.0)) (sym stands.1.0) (wrote_then text so_far answer c a b made.0 one made.2))

-- where one more took nothing, the peer takes no more
pub wrote_last : (number : ℕ) (text : List ℕ) (so_far n : ℕ) (old new : Option Log) → n ≡ 0 → OnLogs (OnHeld number (WritesMore text so_far (Ok n))) old new
    → OnLogs (OnHeld number (SendsOf text (Ok so_far))) old new
wrote_last number text so_far n old new none sends =
    let same : so_far + n ≡ so_far = omega (arith, none) in
    on_one number (WritesMore text so_far (Ok n)) (SendsOf text (Ok so_far)) old new (λ c a b w. (subst (λ m. Sends c (take m text) a b) same w.0, w.1 none)) sends

-- nothing was sent yet
pub wrote_none : (number : ℕ) (text : List ℕ) (old : Option Log) → OnLogs (OnHeld number (SendsFirst text 0)) old old
wrote_none number text None = tt
wrote_none number text (Some a) = by (held number (connections_of a))
  where
    by : (h : Option ℕ) → IfSome h (λ c. Sends c [] a a)
    by None = tt
    by (Some c) = sends_none c a
