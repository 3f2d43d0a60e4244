-- Of what its peer sends, nothing comes behind the end.
use Rattle.std.proofs.Common.{◌≡◌, ℕ, zero, suc, ◌<◌, ◌≤◌, inr, Bool, true, false, true≢false, cond, List, [], ◌∷◌, ◌++◌, length, take, drop, refl, sym, ap, ◌∙◌, subst, arith}
use Rattle.std.specs.Prelude.{slice_get, Option, Some, None, IfSome, min, is_some, ◌||◌, Result, Ok, Err}
use Rattle.std.specs.List.{AllByRecursion}
use Rattle.std.proofs.Math.Seq.{drop-nil}
use Rattle.std.proofs.lemmas.Option.{none-some, same_Some}
use Rattle.std.proofs.lemmas.List.{length-take-le, drop_all}
use Rattle.connections.specs.declared.schedule.Change.{Change}
use Rattle.connections.specs.declared.schedule.Step.{Step}
use Rattle.connections.specs.declared.schedule.Step.TheVariants.{Opens, TurnsAway, Reports, Happens}
use Rattle.connections.specs.declared.connections.Broken.{Broken}
use Rattle.connections.specs.declared.connections.Input.{Input}
use Rattle.connections.specs.declared.connections.Input.TheVariants.{Bytes, All, Later, Ended}
use Rattle.connections.specs.Connection.{Connection, new_connection, readable, after_change, after_read, after_write, after_ask, after_close}
use Rattle.connections.specs.State.{State, Entry, opened, reported, turned_away, met, second, received, sent, asked, closed, changed, state_after, after_step, after_report, after_meeting, held}
use Rattle.connections.specs.Log.{Log, connections_of, state_of, now_of, with_entries, logged, after_met}
use Rattle.connections.specs.Calls.{GivesSome, IsAll, IsGiven, ReadGives, gave}
use Rattle.connection_loop.specs.Traffic.{IsSend, Sends, Reads, IsIn, IsBroken, HasEnded, IsDrained, after_receiving, ReadsTo, why, bytes_read, OnHeld}
use Rattle.connection_loop.specs.Open.{IsOpen, OnLogs}
use Rattle.connection_loop.proofs.Places.{there, if_changed, changed_here}
use Rattle.connection_loop.proofs.Opening.{met_at, found}
use Rattle.connection_loop.proofs.Traffic.{met_entries}

take_none : (n : ℕ) → take {A = ℕ} n [] ≡ []
take_none zero = refl
take_none (suc n) = refl

-- Nothing is to come once it ended

abbrev IsDry : Connection → Type 0
IsDry x = x.has_ended ≡ true → x.to_come ≡ []

dry_all : (f : Connection → Connection) → ((x : Connection) → IsDry x → IsDry (f x)) → (c : ℕ) (all : List Connection) → AllByRecursion IsDry all → AllByRecursion IsDry (changed c f all)
dry_all f keeps c [] dry = tt
dry_all f keeps zero (x ∷ all) dry = (keeps x dry.0, dry.1)
dry_all f keeps (suc c) (x ∷ all) dry = (dry.0, dry_all f keeps c all dry.1)

dry_more : (all : List Connection) (x : Connection) → AllByRecursion IsDry all → IsDry x → AllByRecursion IsDry (all ++ x ∷ [])
dry_more [] x dry one = (one, tt)
dry_more (y ∷ all) x dry one = (dry.0, dry_more all x dry.1 one)

-- what is left of nothing
left_none : (b : Bool) (n : ℕ) (l : List ℕ) → l ≡ [] → cond b [] (drop n l) ≡ []
left_none true n l none = refl
left_none false n l none = ap (drop n) none ∙ drop-nil n

dry_change : (change : Change) (x : Connection) → IsDry x → IsDry (after_change change x)
dry_change change x dry is = by change.ends x.has_ended refl refl is
  where
    by : (ends ended : Bool) → change.ends ≡ ends → x.has_ended ≡ ended → (ended || ends) ≡ true → (after_change change x).to_come ≡ []
    by true ended e h is = ap (λ t. cond (t || is_some change.breaks) [] (drop change.comes x.to_come)) e
    by false true e h is = left_none (change.ends || is_some change.breaks) change.comes x.to_come (dry h)
    by false false e h is = absurd (true≢false (sym is))

dry_step : (number : ℕ) (step : Step) (all : List Connection) → AllByRecursion IsDry all → AllByRecursion IsDry (after_step number step all)
dry_step number (Opens window bytes) all dry = dry_more all (new_connection number window bytes) dry (λ is. absurd (true≢false (sym is)))
dry_step number TurnsAway all dry = dry
dry_step number (Reports c change) all dry = dry_all (after_change change) (dry_change change) c all dry
dry_step number (Happens c change) all dry = dry_all (after_change change) (dry_change change) c all dry

dry_report : (number : ℕ) (state : State) (later : List Step) → AllByRecursion IsDry state.connections → AllByRecursion IsDry (after_report number state later).connections
dry_report number state [] dry = dry
dry_report number state (step ∷ later) dry = dry_step number step state.connections dry

dry_meeting : (state : State) (later : List Step) → AllByRecursion IsDry state.connections → AllByRecursion IsDry (after_meeting state later).connections
dry_meeting state [] dry = dry
dry_meeting state (Opens window bytes ∷ later) dry = dry
dry_meeting state (TurnsAway ∷ later) dry = dry
dry_meeting state (Reports c change ∷ later) dry = dry
dry_meeting state (Happens c change ∷ later) dry = dry_all (after_change change) (dry_change change) c state.connections dry

dry : (schedule : List Step) (entries : List Entry) → AllByRecursion IsDry (state_after schedule entries).connections
dry schedule [] = tt
dry schedule (opened n ∷ entries) = let s = state_after schedule entries in dry_report n s s.later (dry schedule entries)
dry schedule (reported n ∷ entries) = let s = state_after schedule entries in dry_report n s s.later (dry schedule entries)
dry schedule (turned_away ∷ entries) = let s = state_after schedule entries in dry_report 0 s s.later (dry schedule entries)
dry schedule (second t ∷ entries) = dry schedule entries
dry schedule (met ∷ entries) = let s = state_after schedule entries in dry_meeting s s.later (dry schedule entries)
dry schedule (received c bytes ∷ entries) = dry_all (after_read (length bytes)) (λ x d. d) c (state_after schedule entries).connections (dry schedule entries)
dry schedule (sent c bytes ∷ entries) = dry_all (after_write (length bytes)) (λ x d. d) c (state_after schedule entries).connections (dry schedule entries)
dry schedule (asked c ∷ entries) = dry_all after_ask (λ x d. d) c (state_after schedule entries).connections (dry schedule entries)
dry schedule (closed c ∷ entries) = dry_all after_close (λ x d. d) c (state_after schedule entries).connections (dry schedule entries)

dry_at : (all : List Connection) (c : ℕ) (x : Connection) → AllByRecursion IsDry all → slice_get all c ≡ Some x → IsDry x
dry_at [] c x dry is = absurd (none-some x is)
dry_at (y ∷ all) zero x dry is = subst IsDry (same_Some y x is) dry.0
dry_at (y ∷ all) (suc c) x dry is = dry_at all c x dry.1 is

-- The end stays

read_none : (breaks : Option ℕ) → readable breaks [] ≡ []
read_none None = refl
read_none (Some count) = take_none count

pub ended_change : (change : Change) (x : Connection) → HasEnded x → HasEnded (after_change change x)
ended_change change x is = record {
  ended = ap (λ t. t || change.ends) is.ended;
  read =
      ap (λ w. readable change.breaks (w ++ take change.comes x.to_come)) is.read ∙ ap (λ t. readable change.breaks (take change.comes t)) is.none
      ∙ ap (readable change.breaks) (take_none change.comes) ∙ read_none change.breaks;
  none = left_none (change.ends || is_some change.breaks) change.comes x.to_come is.none;
}

pub in_changed : (c : ℕ) (f : Connection → Connection) → ((x : Connection) → HasEnded x → HasEnded (f x)) → (d : ℕ) (all : List Connection) → IfSome (slice_get all d) HasEnded
    → IfSome (slice_get (changed c f all) d) HasEnded
in_changed = if_changed HasEnded

ended_meeting : (d : ℕ) (state : State) (later : List Step) → IfSome (slice_get state.connections d) HasEnded → IfSome (slice_get (after_meeting state later).connections d) HasEnded
ended_meeting d state [] is = is
ended_meeting d state (Opens window bytes ∷ later) is = is
ended_meeting d state (TurnsAway ∷ later) is = is
ended_meeting d state (Reports c change ∷ later) is = is
ended_meeting d state (Happens c change ∷ later) is = in_changed c (after_change change) (ended_change change) d state.connections is

pub ended_sends : (c : ℕ) (schedule : List Step) (more entries : List Entry) → AllByRecursion (IsSend c) more → (d : ℕ) → IfSome (slice_get (state_after schedule entries).connections d) HasEnded
    → IfSome (slice_get (state_after schedule (more ++ entries)).connections d) HasEnded
ended_sends c schedule [] entries each d is = is
ended_sends c schedule (met ∷ more) entries each d is =
    let s = state_after schedule (more ++ entries) in ended_meeting d s s.later (ended_sends c schedule more entries each.1 d is)
ended_sends c schedule (sent e bytes ∷ more) entries each d is =
    in_changed e (after_write (length bytes)) (λ x h. record { ended = h.ended; read = h.read; none = h.none }) d (state_after schedule (more ++ entries)).connections
    (ended_sends c schedule more entries each.1 d is)
ended_sends c schedule (opened n ∷ more) entries each d is = absurd each.0
ended_sends c schedule (reported n ∷ more) entries each d is = absurd each.0
ended_sends c schedule (turned_away ∷ more) entries each d is = absurd each.0
ended_sends c schedule (second s ∷ more) entries each d is = absurd each.0
ended_sends c schedule (received e bytes ∷ more) entries each d is = absurd each.0
ended_sends c schedule (asked e ∷ more) entries each d is = absurd each.0
ended_sends c schedule (closed e ∷ more) entries each d is = absurd each.0

-- where bytes are sent, one that ended has
pub sends_ended : {c : ℕ} {text : List ℕ} {old new : Log} → Sends c text old new → (d : ℕ) → IsIn HasEnded d old → IsIn HasEnded d new
sends_ended {c} {text} {old} {new} sends d is =
    subst (λ (e : List Entry). IfSome (slice_get (state_after new.schedule e).connections d) HasEnded) (sym sends.entries)
    (subst (λ (s : List Step). IfSome (slice_get (state_after s (sends.more ++ old.entries)).connections d) HasEnded) (sym sends.schedule)
    (ended_sends c old.schedule sends.more old.entries sends.each d is))

-- A read

receives_some : (t c : ℕ) (bytes : List ℕ) (entries : List Entry) → 0 < length bytes → after_receiving t c bytes entries ≡ second t ∷ received c bytes ∷ entries
receives_some t c [] entries some = absurd (omega (arith, some))
receives_some t c (byte ∷ bytes) entries some = refl

some_reads : (t c most : ℕ) (out : List ℕ) (count : ℕ) (old : Log) (x : Connection) → GivesSome x most out count
    → Reads c (take count out) old (logged (second t) (logged (received c (take count x.waiting)) (after_met old)))
some_reads t c most out count old x given =
    let m = met_entries (state_of old).later old.entries in
    let fits : count ≤ length x.waiting = let n = given.1 in omega (arith, n) in
    let len : length (take count out) ≡ count = ap length given.2 ∙ length-take-le count x.waiting fits in
    let some : 0 < length (take count out) = let n = given.0 in omega (arith, n, len) in
    record {
      schedule = refl;
      piece = refl;
      mets = m.0;
      each = m.1;
      at = t;
      entries =
          ap (λ b. second t ∷ received c b ∷ (after_met old).entries) (sym given.2) ∙ ap (λ e. second t ∷ received c (take count out) ∷ e) m.2
          ∙ sym (receives_some t c (take count out) (m.0 ++ old.entries) some);
    }

-- nothing is left where all was given
all_drained : (c count : ℕ) (log : Log) (x : Connection) → slice_get (connections_of log) c ≡ Some x → IsAll x count → IsIn IsDrained c (logged (received c (take count x.waiting)) log)
all_drained c count log x is all =
    let k = length (take count x.waiting) in
    let whole = all.0 in
    let len : k ≡ count = length-take-le count x.waiting (omega (arith, whole)) in
    let drained : IsDrained (after_read k x) = record { read = drop_all k x.waiting (omega (arith, whole, len)); whole = all.1; goes_on = all.2 } in
    subst (λ o. IfSome o IsDrained) (sym (changed_here c (after_read k) (connections_of log) x is)) drained

gave_reads : (t c most : ℕ) (out : List ℕ) (answer : Result Input Broken) (old : Log) (x : Connection) → slice_get (connections_of (after_met old)) c ≡ Some x → IsGiven x most out answer
    → ReadsTo why (bytes_read out answer) answer c old (with_entries (gave t c x answer) (after_met old))
gave_reads t c most out (Ok (Bytes count)) old x is given = (some_reads t c most out count old x given, tt)
gave_reads t c most out (Ok (All count)) old x is given = (some_reads t c most out count old x given.0, inr (all_drained c count (after_met old) x is given.1))
gave_reads t c most out (Ok Later) old x is given =
    let m = met_entries (state_of old).later old.entries in
    let drained : IsDrained x = record { read = given.0; whole = given.1; goes_on = given.2 } in
    (record { schedule = refl; piece = refl; mets = m.0; each = m.1; at = t; entries = m.2 }, inr (subst (λ o. IfSome o IsDrained) (sym is) drained))
gave_reads t c most out (Ok Ended) old x is given =
    let m = met_entries (state_of old).later old.entries in
    let ended : HasEnded x = record {
      ended = given.2;
      read = given.0;
      none = dry_at (connections_of (after_met old)) c x (dry old.schedule (after_met old).entries) is given.2;
    } in
    (record { schedule = refl; piece = refl; mets = m.0; each = m.1; at = t; entries = m.2 }, subst (λ o. IfSome o HasEnded) (sym is) ended)
gave_reads t c most out (Err broken) old x is given =
    let m = met_entries (state_of old).later old.entries in
    (record { schedule = refl; piece = refl; mets = m.0; each = m.1; at = t; entries = m.2 }, subst (λ o. IfSome o IsBroken) (sym is) given.1)

-- what one call of `read` makes of a log
pub read_reads : (number room : ℕ) (out : List ℕ) (answer : Result Input Broken) (old : Log) (new : Option Log) (c : ℕ) → held number (connections_of old) ≡ Some c
    → ReadGives number room out answer old new → (made : Log) × (new ≡ Some made) × ReadsTo why (bytes_read out answer) answer c old made
read_reads number room out answer old new c is gives =
    let at = met_at old number c 0 (is, omega arith) in
    let x = there number c (connections_of (after_met old)) at.0 in
    let g = found _ (held number (connections_of old)) c is gives in
    let g' = found _ (slice_get (connections_of (after_met old)) c) x.0 x.1 g in
    let t = now_of (after_met old) in (with_entries (gave t c x.0 answer) (after_met old), g'.1, gave_reads t c (min room old.script.piece) out answer old x.0 x.1 g'.0)

pub reads_told : (number asks room : ℕ) (out : List ℕ) (answer : Result Input Broken) (old new : Option Log) → IfSome old (IsOpen number asks)
    → IfSome old (λ l. ReadGives number room out answer l new) → OnLogs (OnHeld number (ReadsTo why (bytes_read out answer) answer)) old new
reads_told number asks room out answer None new stands gives = tt
reads_told number asks room out answer (Some a) new stands gives =
    let made = read_reads number room out answer a new stands.0 stands.1.0 gives in
    subst (λ o. OnLogs (OnHeld number (ReadsTo why (bytes_read out answer) answer)) (Some a) o) (sym made.1)
    (subst (λ h. IfSome h (λ c. ReadsTo why (bytes_read out answer) answer c a made.0)) (sym stands.1.0) made.2)
