-- What a report makes of what stands.
use Rattle.std.proofs.Common.{◌≡◌, ℕ, true, List, [], ◌∷◌, length, refl, sym, ap, ◌∙◌, subst, arith}
use Rattle.std.specs.Prelude.{slice_get, Option, None, Some, is_some, IfSome}
use Rattle.std.proofs.lemmas.Option.{same_Some, slice_get_past}
use Rattle.partition_model.specs.declared.options.Options.{Options}
use Rattle.connections.specs.declared.schedule.Step.{Step}
use Rattle.connections.specs.declared.schedule.Step.TheVariants.{Opens, TurnsAway, Reports, Happens}
use Rattle.connections.specs.declared.connections.Event.{Event}
use Rattle.connections.specs.declared.connections.Event.TheVariants.{Opened, TurnedAway, Ready}
use Rattle.connections.specs.Connection.{after_change}
use Rattle.connections.specs.State.{State, Entry, opened, reported, turned_away, held, after_report}
use Rattle.connections.specs.Log.{Log, connections_of, state_of, received_of, sent_of, now_of, logged, called, timed}
use Rattle.connections.specs.Calls.{IsNext, ReportsNext, entry_of}
use Rattle.connection_loop.specs.declared.client.Client.{Client}
use Rattle.connection_loop.specs.declared.desk.TheConstants.{MOST_UNSENT}
use Rattle.connection_loop.specs.Given.{Given}
use Rattle.connection_loop.specs.Traffic.{IsIn, HasEnded}
use Rattle.connection_loop.specs.Moments.{TalksWithAll, IsCaused}
use Rattle.connection_loop.specs.Standing.{IsUntouched, Stands, IsNew}
use Rattle.connection_loop.specs.Resting.{Tends, TendsBut}
use Rattle.connection_loop.proofs.Places.{there, pushed_here, if_pushed}
use Rattle.connection_loop.proofs.Opening.{next_at, number_in}
use Rattle.connection_loop.proofs.Moments.{last_moment, through_entry, through_second}
use Rattle.connection_loop.proofs.Drying.{in_changed, ended_change}
use Rattle.connection_loop.proofs.Making.{made_report}
use Rattle.connection_loop.proofs.Standing.{under_stays}
use Rattle.connection_loop.proofs.Telling.{tells}

ended_report : (number : ℕ) (state : State) (later : List Step) (d : ℕ) → is_some (slice_get state.connections d) ≡ true → IfSome (slice_get state.connections d) HasEnded
    → IfSome (slice_get (after_report number state later).connections d) HasEnded
ended_report number state [] d made is = is
ended_report number state (Opens window bytes ∷ later) d made is = if_pushed HasEnded state.connections _ d made is
ended_report number state (TurnsAway ∷ later) d made is = is
ended_report number state (Reports c change ∷ later) d made is = in_changed c (after_change change) (ended_change change) d state.connections is
ended_report number state (Happens c change ∷ later) d made is = in_changed c (after_change change) (ended_change change) d state.connections is

-- a new connection is behind all others
opened_here : (number : ℕ) (state : State) (later : List Step) → IsNext (Opened number) state.connections later
    → held number (after_report number state later).connections ≡ Some (length state.connections)
opened_here number state [] is = absurd is
opened_here number state (Opens window bytes ∷ later) is = (pushed_here number window bytes state.connections is).0
opened_here number state (TurnsAway ∷ later) is = absurd is
opened_here number state (Reports c change ∷ later) is = absurd is
opened_here number state (Happens c change ∷ later) is = absurd is

module _ (options : Options) (base : ℕ) (lacking : List ℕ) (all : List Given) (clients : List (Option Client)) where
  -- a report was entered, and which second it is then
  module _ (e : Entry) (old : Log) where
    abbrev entered : Log
    entered = timed (logged e (called old))

    stands_entered : ((d : ℕ) → received_of d (e ∷ old.entries) ≡ received_of d old.entries) → ((d : ℕ) → sent_of d (e ∷ old.entries) ≡ sent_of d old.entries)
        → ((n d : ℕ) → held n (connections_of old) ≡ Some d → held n (connections_of entered) ≡ Some d)
        → ((d : ℕ) → is_some (slice_get (connections_of old) d) ≡ true → IsIn HasEnded d old → IsIn HasEnded d entered)
        → ((d : ℕ) → slice_get (connections_of entered) d ≡ None → slice_get (connections_of old) d ≡ None) → IsCaused options base old.schedule lacking e old.entries all
        → TalksWithAll options base MOST_UNSENT lacking (e ∷ old.entries) all → Stands options base lacking old all clients → Stands options base lacking entered all clients
    stands_entered came went under over made cause talks stands = record {
      timed = refl;
      through = through_second options base MOST_UNSENT old.schedule lacking (now_of (logged e (called old))) (e ∷ old.entries) all
          (through_entry options base MOST_UNSENT old.schedule lacking e old.entries all talks cause stands.through);
      holds = λ n x is.
          let k = stands.holds n x is in
          let there_was = ap is_some (there n k.place (connections_of old) k.under).1 in
          under_stays options base {new = entered} k (under n k.place k.under)
          (record { came = came k.place; went = went k.place; over = over k.place there_was; made = made k.place }) refl;
      to_come = λ d none. let u = stands.to_come d (made d none) in record { came = came d ∙ u.came; went = went d ∙ u.went; given = u.given };
    }

  new_opened : (number : ℕ) (old : Log) → IsNext (Opened number) (connections_of old) (state_of old).later → Stands options base lacking old all clients
      → IsNew (Opened number) (entered (opened number) old) all
  new_opened number old next stands = λ c here.
      let s = state_of old in
      let len = length s.connections in
      let same = same_Some len c (sym (opened_here number s s.later next) ∙ here) in
      let u = stands.to_come len (slice_get_past s.connections len (omega arith)) in
      subst (λ d. IsUntouched d (entered (opened number) old).entries all) same (record { came = u.came; went = u.went; given = u.given })

  -- all stands as it did, and nothing was done with what is new
  pub record Told (event : Event) (old new : Log) : Type 0 where
    pub schedule : new.schedule ≡ old.schedule
    pub piece : new.script.piece ≡ old.script.piece
    pub stands : Stands options base lacking new all clients
    pub is_new : IsNew event new all
    pub tends : Tends old.script.piece (state_of old) clients → TendsBut event old.script.piece (state_of new) clients

  pub event_told : (event : Event) (old new : Log) → ReportsNext old event (Some new) → Stands options base lacking old all clients → Told event old new
  event_told event old new reports stands = subst (λ m. Told event old m) (sym (same_Some new (entered (entry_of event) old) reports.result)) (by event reports.next)
    where
      s : State
      s = state_of old

      under : (e : Event) → IsNext e s.connections s.later → (n d : ℕ) → held n s.connections ≡ Some d → held n (after_report (number_in e) s s.later).connections ≡ Some d
      under e next n d is = (next_at e s s.later next n d 0 (is, omega arith)).0

      talks : TalksWithAll options base MOST_UNSENT lacking old.entries all
      talks = last_moment options base MOST_UNSENT old.schedule lacking old.entries all stands.through

      by : (e : Event) → IsNext e s.connections s.later → Told e old (entered (entry_of e) old)
      by (Opened number) next = record {
        schedule = refl;
        piece = refl;
        stands = stands_entered (opened number) old (λ d. refl) (λ d. refl) (under (Opened number) next) (ended_report number s s.later) (made_report number s s.later) tt talks stands;
        is_new = new_opened number old next stands;
        tends = tells (Opened number) old.script.piece clients s s.later refl next;
      }
      by TurnedAway next = record {
        schedule = refl;
        piece = refl;
        stands = stands_entered turned_away old (λ d. refl) (λ d. refl) (under TurnedAway next) (ended_report 0 s s.later) (made_report 0 s s.later) tt talks stands;
        is_new = tt;
        tends = tells TurnedAway old.script.piece clients s s.later refl next;
      }
      by (Ready number) next = record {
        schedule = refl;
        piece = refl;
        stands = stands_entered (reported number) old (λ d. refl) (λ d. refl) (under (Ready number) next) (ended_report number s s.later) (made_report number s s.later) tt talks stands;
        is_new = tt;
        tends = tells (Ready number) old.script.piece clients s s.later refl next;
      }
