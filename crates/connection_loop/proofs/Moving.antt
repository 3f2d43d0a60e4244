-- What calls for one connection leave of the others, and of what is to come.
use Rattle.std.proofs.Common.{◌≡◌, ◌⊎◌, inl, inr, ℕ, zero, suc, List, [], ◌∷◌, ◌++◌, length, drop, refl, sym, ap, ◌∙◌, subst}
use Rattle.std.specs.Prelude.{slice_get, IfSome}
use Rattle.std.specs.List.{AllByRecursion}
use Rattle.std.proofs.Math.Seq.{drop-nil}
use Rattle.std.proofs.lemmas.Bool.{cases_eq, eqb-false}
use Rattle.connections.specs.declared.schedule.Step.{Step}
use Rattle.connections.specs.declared.schedule.Step.TheVariants.{Opens, TurnsAway, Reports, Happens}
use Rattle.connections.specs.Connection.{Connection, nothing, after_change, after_read, after_write, after_ask}
use Rattle.connections.specs.State.{State, Entry, opened, reported, turned_away, met, second, received, sent, asked, closed, changed, is_under, held, after, state_after, after_meeting}
use Rattle.connections.specs.Log.{Log, state_of}
use Rattle.connection_loop.specs.Traffic.{IsSend, Sends, Reads, IsDrained, IsToCome, after_receiving}
use Rattle.connection_loop.specs.Resting.{is_there, AreApart, Moves}
use Rattle.connection_loop.proofs.Places.{elsewhere, if_changed, same_held}
use Rattle.connection_loop.proofs.Traffic.{mets_send}

-- Numbers

-- it leaves the numbers under which a connection is open
abbrev pub KeepsThere : (Connection → Connection) → Type 0
KeepsThere f = (n : ℕ) (x : Connection) → is_under n (f x) ≡ is_under n x

pub there_changed : (f : Connection → Connection) → KeepsThere f → (c : ℕ) (all : List Connection) (n d : ℕ) → is_there n (slice_get (changed c f all) d) ≡ is_there n (slice_get all d)
there_changed f keeps c [] n d = refl
there_changed f keeps zero (x ∷ all) n zero = keeps n x
there_changed f keeps zero (x ∷ all) n (suc d) = refl
there_changed f keeps (suc c) (x ∷ all) n zero = refl
there_changed f keeps (suc c) (x ∷ all) n (suc d) = there_changed f keeps c all n d

pub held_changed : (f : Connection → Connection) → KeepsThere f → (c : ℕ) (all : List Connection) (n : ℕ) → held n (changed c f all) ≡ held n all
held_changed f keeps c all n = same_held n c f all (λ x is. keeps n x)

pub apart_as : (all now : List Connection) → ((n d : ℕ) → is_there n (slice_get now d) ≡ is_there n (slice_get all d)) → ((n : ℕ) → held n now ≡ held n all) → AreApart all → AreApart now
apart_as all now there same apart n d is = same n ∙ apart n d (sym (there n d) ∙ is)

-- What is to come

come_front : (d : ℕ) (later more : List Step) → IsToCome d later → IsToCome d (later ++ more)
come_front d [] more is = absurd is
come_front d (Opens window bytes ∷ later) more is = come_front d later more is
come_front d (TurnsAway ∷ later) more is = come_front d later more is
come_front d (Reports e change ∷ later) more is = elim is as (λ _. (e ≡ d) ⊎ IsToCome d (later ++ more)) [ inl same ↦ inl same | inr come ↦ inr (come_front d later more come) ]
come_front d (Happens e change ∷ later) more is = elim is as (λ _. (e ≡ d) ⊎ IsToCome d (later ++ more)) [ inl same ↦ inl same | inr come ↦ inr (come_front d later more come) ]

come_back : (d e : ℕ) → e ≡ d → (later : List Step) → IsToCome d (later ++ Reports e nothing ∷ [])
come_back d e same [] = inl same
come_back d e same (Opens window bytes ∷ later) = come_back d e same later
come_back d e same (TurnsAway ∷ later) = come_back d e same later
come_back d e same (Reports f change ∷ later) = inr (come_back d e same later)
come_back d e same (Happens f change ∷ later) = inr (come_back d e same later)

-- One call

pub moves_none : (c : ℕ) (s : State) → Moves c s s
moves_none c s = record { there = λ n d. refl; same = λ n. refl; to_come = λ d is. is; others = λ d other. inr refl; own = inr (λ is. is) }

pub moves_then : {c : ℕ} {old between new : State} → Moves c old between → Moves c between new → Moves c old new
moves_then {c} {old} {between} {new} first behind = record {
  there = λ n d. behind.there n d ∙ first.there n d;
  same = λ n. behind.same n ∙ first.same n;
  to_come = λ d is. behind.to_come d (first.to_come d is);
  others = λ d other. elim (first.others d other) as (λ _. IsToCome d new.later ⊎ (slice_get new.connections d ≡ slice_get old.connections d)) [
    | inl come ↦ inl (behind.to_come d come)
    | inr same ↦ elim (behind.others d other) as (λ _. IsToCome d new.later ⊎ (slice_get new.connections d ≡ slice_get old.connections d)) [ inl come ↦ inl come | inr still ↦ inr (still ∙ same) ]
  ];
  own = elim first.own as (λ _. IsToCome c new.later ⊎ (IfSome (slice_get old.connections c) IsDrained → IfSome (slice_get new.connections c) IsDrained)) [
    | inl come ↦ inl (behind.to_come c come)
    | inr one ↦ elim behind.own as (λ _. IsToCome c new.later ⊎ (IfSome (slice_get old.connections c) IsDrained → IfSome (slice_get new.connections c) IsDrained)) [
      | inl come ↦ inl come
      | inr two ↦ inr (λ is. two (one is))
    ]
  ];
}

-- the connection changed, in which nothing waits for it
moves_changed : (c e : ℕ) (f : Connection → Connection) → KeepsThere f → ((x : Connection) → IsDrained x → IsDrained (f x)) → e ≡ c → (s : State)
    → Moves c s (record s { connections = changed e f s.connections })
moves_changed c e f keeps drained same s = record {
  there = there_changed f keeps e s.connections;
  same = held_changed f keeps e s.connections;
  to_come = λ d is. is;
  others = λ d other. inr (elsewhere e d f s.connections (λ is. eqb-false c d other (sym same ∙ is)));
  own = inr (if_changed IsDrained e f drained c s.connections);
}

-- one changed, of which a report is to come
moves_owed : (c e : ℕ) (f : Connection → Connection) → KeepsThere f → (s : State) (later : List Step) → ((d : ℕ) → IsToCome d s.later → (e ≡ d) ⊎ IsToCome d later)
    → Moves c s (record { connections = changed e f s.connections; later = later ++ Reports e nothing ∷ [] })
moves_owed c e f keeps s later come = record {
  there = there_changed f keeps e s.connections;
  same = held_changed f keeps e s.connections;
  to_come = λ d is. elim (come d is) as (λ _. IsToCome d (later ++ Reports e nothing ∷ [])) [
    | inl same ↦ come_back d e same later
    | inr still ↦ come_front d later (Reports e nothing ∷ []) still
  ];
  others = λ d other. elim (cases_eq e d) as (λ _. IsToCome d (later ++ Reports e nothing ∷ []) ⊎ (slice_get (changed e f s.connections) d ≡ slice_get s.connections d)) [
    | inl same ↦ inl (come_back d e same later)
    | inr apart ↦ inr (elsewhere e d f s.connections apart)
  ];
  own = elim (cases_eq e c) as (λ _. IsToCome c (later ++ Reports e nothing ∷ []) ⊎ (IfSome (slice_get s.connections c) IsDrained → IfSome (slice_get (changed e f s.connections) c) IsDrained)) [
    | inl same ↦ inl (come_back c e same later)
    | inr apart ↦ inr (λ is. subst (λ o. IfSome o IsDrained) (sym (elsewhere e c f s.connections apart)) is)
  ];
}

pub moves_asked : (c : ℕ) (s : State) → Moves c s (after (asked c) s)
moves_asked c s = moves_owed c c after_ask (λ n x. refl) s s.later (λ d come. inr come)

-- and its report is
pub asked_comes : (c : ℕ) (s : State) → IsToCome c (after (asked c) s).later
asked_comes c s = come_back c c refl s.later

moves_meeting : (c : ℕ) (s : State) (later : List Step) → s.later ≡ later → Moves c s (after_meeting s later)
moves_meeting c s [] is = moves_none c s
moves_meeting c s (Opens window bytes ∷ later) is = moves_none c s
moves_meeting c s (TurnsAway ∷ later) is = moves_none c s
moves_meeting c s (Reports e change ∷ later) is = moves_none c s
moves_meeting c s (Happens e change ∷ later) is = moves_owed c e (after_change change) (λ n x. refl) s later (λ d come. subst (IsToCome d) is come)

-- Calls, one after another

moves_more : (c : ℕ) (schedule : List Step) (more entries : List Entry) → AllByRecursion (IsSend c) more → Moves c (state_after schedule entries) (state_after schedule (more ++ entries))
moves_more c schedule [] entries each = moves_none c (state_after schedule entries)
moves_more c schedule (met ∷ more) entries each =
    let s = state_after schedule (more ++ entries) in moves_then (moves_more c schedule more entries each.1) (moves_meeting c s s.later refl)
moves_more c schedule (sent e bytes ∷ more) entries each =
    moves_then (moves_more c schedule more entries each.1)
    (moves_changed c e (after_write (length bytes)) (λ n x. refl) (λ x is. record { read = is.read; whole = is.whole; goes_on = is.goes_on }) each.0 (state_after schedule (more ++ entries)))
moves_more c schedule (opened n ∷ more) entries each = absurd each.0
moves_more c schedule (reported n ∷ more) entries each = absurd each.0
moves_more c schedule (turned_away ∷ more) entries each = absurd each.0
moves_more c schedule (second s ∷ more) entries each = absurd each.0
moves_more c schedule (received e bytes ∷ more) entries each = absurd each.0
moves_more c schedule (asked e ∷ more) entries each = absurd each.0
moves_more c schedule (closed e ∷ more) entries each = absurd each.0

drained_read : (count : ℕ) (x : Connection) → IsDrained x → IsDrained (after_read count x)
drained_read count x is = record { read = ap (drop count) is.read ∙ drop-nil count; whole = is.whole; goes_on = is.goes_on }

moves_receiving : (t c : ℕ) (schedule : List Step) (bytes : List ℕ) (entries : List Entry) → Moves c (state_after schedule entries) (state_after schedule (after_receiving t c bytes entries))
moves_receiving t c schedule [] entries = moves_none c (state_after schedule entries)
moves_receiving t c schedule (byte ∷ bytes) entries =
    moves_changed c c (after_read (length (byte ∷ bytes))) (λ n x. refl) (drained_read (length (byte ∷ bytes))) refl (state_after schedule entries)

-- of what a log tells, by its parts
moves_to : {c : ℕ} {old : State} (new : Log) (schedule : List Step) (entries : List Entry) → new.schedule ≡ schedule → new.entries ≡ entries → Moves c old (state_after schedule entries)
    → Moves c old (state_of new)
moves_to {c} {old} new schedule entries schedule_is entries_is moves =
    subst (λ (e : List Entry). Moves c old (state_after new.schedule e)) (sym entries_is) (subst (λ (s : List Step). Moves c old (state_after s entries)) (sym schedule_is) moves)

pub moves_sends : {c : ℕ} {text : List ℕ} {old new : Log} → Sends c text old new → Moves c (state_of old) (state_of new)
moves_sends {c} {text} {old} {new} sends =
    moves_to new old.schedule (sends.more ++ old.entries) sends.schedule sends.entries (moves_more c old.schedule sends.more old.entries sends.each)

pub moves_reads : {c : ℕ} {bytes : List ℕ} {old new : Log} → Reads c bytes old new → Moves c (state_of old) (state_of new)
moves_reads {c} {bytes} {old} {new} reads =
    moves_to new old.schedule (after_receiving reads.at c bytes (reads.mets ++ old.entries)) reads.schedule reads.entries
    (moves_then (moves_more c old.schedule reads.mets old.entries (mets_send c reads.mets reads.each)) (moves_receiving reads.at c old.schedule bytes (reads.mets ++ old.entries)))
