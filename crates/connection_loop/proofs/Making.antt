-- A connection that is not made yet was not made before.
use Rattle.std.proofs.Common.{◌≡◌, ℕ, zero, suc, List, [], ◌∷◌, ◌++◌, length, refl, sym, subst}
use Rattle.std.specs.Prelude.{slice_get, None}
use Rattle.std.specs.List.{AllByRecursion}
use Rattle.std.proofs.lemmas.Option.{none-some}
use Rattle.connections.specs.declared.schedule.Step.{Step}
use Rattle.connections.specs.declared.schedule.Step.TheVariants.{Opens, TurnsAway, Reports, Happens}
use Rattle.connections.specs.Connection.{Connection, after_change, after_read, after_write}
use Rattle.connections.specs.State.{State, Entry, opened, reported, turned_away, met, second, received, sent, asked, closed, changed, state_after, after_report, after_meeting}
use Rattle.connections.specs.Log.{Log, connections_of}
use Rattle.connection_loop.specs.Traffic.{IsSend, Sends, Reads, after_receiving}
use Rattle.connection_loop.proofs.Traffic.{mets_send}

pub made_changed : (c : ℕ) (f : Connection → Connection) (d : ℕ) (all : List Connection) → slice_get (changed c f all) d ≡ None → slice_get all d ≡ None
made_changed c f d [] none = none
made_changed zero f zero (x ∷ all) none = absurd (none-some (f x) (sym none))
made_changed zero f (suc d) (x ∷ all) none = none
made_changed (suc c) f zero (x ∷ all) none = none
made_changed (suc c) f (suc d) (x ∷ all) none = made_changed c f d all none

made_pushed : (all : List Connection) (x : Connection) (d : ℕ) → slice_get (all ++ x ∷ []) d ≡ None → slice_get all d ≡ None
made_pushed [] x zero none = refl
made_pushed [] x (suc d) none = refl
made_pushed (y ∷ all) x zero none = none
made_pushed (y ∷ all) x (suc d) none = made_pushed all x d none

pub made_report : (number : ℕ) (state : State) (later : List Step) (d : ℕ) → slice_get (after_report number state later).connections d ≡ None → slice_get state.connections d ≡ None
made_report number state [] d none = none
made_report number state (Opens window bytes ∷ later) d none = made_pushed state.connections _ d none
made_report number state (TurnsAway ∷ later) d none = none
made_report number state (Reports c change ∷ later) d none = made_changed c (after_change change) d state.connections none
made_report number state (Happens c change ∷ later) d none = made_changed c (after_change change) d state.connections none

made_meeting : (state : State) (later : List Step) (d : ℕ) → slice_get (after_meeting state later).connections d ≡ None → slice_get state.connections d ≡ None
made_meeting state [] d none = none
made_meeting state (Opens window bytes ∷ later) d none = none
made_meeting state (TurnsAway ∷ later) d none = none
made_meeting state (Reports c change ∷ later) d none = none
made_meeting state (Happens c change ∷ later) d none = made_changed c (after_change change) d state.connections none

made_more : (c : ℕ) (schedule : List Step) (more entries : List Entry) → AllByRecursion (IsSend c) more → (d : ℕ) → slice_get (state_after schedule (more ++ entries)).connections d ≡ None
    → slice_get (state_after schedule entries).connections d ≡ None
made_more c schedule [] entries each d none = none
made_more c schedule (met ∷ more) entries each d none =
    let s = state_after schedule (more ++ entries) in made_more c schedule more entries each.1 d (made_meeting s s.later d none)
made_more c schedule (sent e bytes ∷ more) entries each d none =
    made_more c schedule more entries each.1 d (made_changed e (after_write (length bytes)) d (state_after schedule (more ++ entries)).connections none)
made_more c schedule (opened n ∷ more) entries each d none = absurd each.0
made_more c schedule (reported n ∷ more) entries each d none = absurd each.0
made_more c schedule (turned_away ∷ more) entries each d none = absurd each.0
made_more c schedule (second s ∷ more) entries each d none = absurd each.0
made_more c schedule (received e bytes ∷ more) entries each d none = absurd each.0
made_more c schedule (asked e ∷ more) entries each d none = absurd each.0
made_more c schedule (closed e ∷ more) entries each d none = absurd each.0

made_receiving : (t c : ℕ) (schedule : List Step) (bytes : List ℕ) (entries : List Entry) (d : ℕ) → slice_get (state_after schedule (after_receiving t c bytes entries)).connections d ≡ None
    → slice_get (state_after schedule entries).connections d ≡ None
made_receiving t c schedule [] entries d none = none
made_receiving t c schedule (byte ∷ bytes) entries d none = made_changed c (after_read (length (byte ∷ bytes))) d (state_after schedule entries).connections none

-- of what a log tells, by its parts
by_parts : (schedule s : List Step) (entries e : List Entry) (d : ℕ) → schedule ≡ s → entries ≡ e → slice_get (state_after schedule entries).connections d ≡ None
    → slice_get (state_after s e).connections d ≡ None
by_parts schedule s entries e d schedule_is entries_is none =
    subst (λ (x : List Step). slice_get (state_after x e).connections d ≡ None) schedule_is
    (subst (λ (x : List Entry). slice_get (state_after schedule x).connections d ≡ None) entries_is none)

pub made_sends : {c : ℕ} {text : List ℕ} {old new : Log} → Sends c text old new → (d : ℕ) → slice_get (connections_of new) d ≡ None → slice_get (connections_of old) d ≡ None
made_sends {c} {text} {old} {new} sends d none =
    made_more c old.schedule sends.more old.entries sends.each d (by_parts new.schedule old.schedule new.entries (sends.more ++ old.entries) d sends.schedule sends.entries none)

pub made_reads : {c : ℕ} {bytes : List ℕ} {old new : Log} → Reads c bytes old new → (d : ℕ) → slice_get (connections_of new) d ≡ None → slice_get (connections_of old) d ≡ None
made_reads {c} {bytes} {old} {new} reads d none =
    made_more c old.schedule reads.mets old.entries (mets_send c reads.mets reads.each) d (made_receiving reads.at c old.schedule bytes (reads.mets ++ old.entries) d
    (by_parts new.schedule old.schedule new.entries (after_receiving reads.at c bytes (reads.mets ++ old.entries)) d reads.schedule reads.entries none))
