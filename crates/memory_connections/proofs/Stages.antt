-- What each call makes of a schedule that is played.
use Rattle.std.proofs.Common.{◌≡◌, ℕ, zero, suc, ◌+◌, ◌-◌, ◌<◌, ◌≤◌, true, false, List, [], ◌∷◌, ◌++◌, length, refl, sym, ap, ◌∙◌, subst, arith}
use Rattle.std.specs.Prelude.{slice_get, slice_index_or, take, drop, map, min, Option, Some, Ok, IfSome}
use Rattle.std.specs.List.{sum_by}
use Rattle.std.proofs.lemmas.List.{length-append, append-nil, length-take-le}
use Rattle.std.proofs.lemmas.Option.{slice_get_within, slice_get-get_or}
use Rattle.connections.specs.declared.schedule.Change.{Change}
use Rattle.connections.specs.declared.schedule.Step.{Step}
use Rattle.connections.specs.declared.schedule.Step.TheVariants.{Opens, TurnsAway, Reports, Happens}
use Rattle.connections.specs.Connection.{Connection, nothing, new_connection, after_change, after_read, after_write, after_ask, after_close}
use Rattle.connections.specs.State.{State, Entry, after, changed, opened, reported, turned_away, met, second, received, sent, asked, closed}
use Rattle.connections.specs.declared.connections.Input.{Input}
use Rattle.connections.specs.declared.connections.Input.TheVariants.{Bytes, All}
use Rattle.connections.specs.Log.{after_meeting_one}
use Rattle.connections.specs.Calls.{GivesSome, IsGiven, IsTaken}
use Rattle.memory_connections.specs.MemoryConnection.{owed, pending, need, cost_of, are_below}
use Rattle.memory_connections.specs.Stage.{Goes, IsStage, Played, played_state, played_connections}
use Rattle.connections.proofs.Places.{length_changed}
use Rattle.memory_connections.proofs.Numbers.{KeepsNumber, below_changed, below_push}
use Rattle.memory_connections.proofs.Room.{opened_needs, turned_needs, reported_needs, happened_needs, pushed_needs, read_needs, write_needs, ask_needs, close_needs}
use Rattle.memory_connections.proofs.Pending.{next_pending, next_owed, more_pending, goes_on, goes_by}

-- a stage with one entry more, for which there was room
pub record Enters (schedule : List Step) (at : ℕ) (reports : List ℕ) (paid : ℕ) (all : List Connection) (entries : List Entry) (room k : ℕ) : Type 0 where
  pub room_for : k ≤ room
  pub stage : IsStage schedule at reports paid all entries (room - k)

below_after : (all : List Connection) (c : ℕ) (f : Connection → Connection) → KeepsNumber f → are_below (length all) all ≡ true → are_below (length (changed c f all)) (changed c f all) ≡ true
below_after all c f keeps below =
    subst (λ n. are_below n (changed c f all) ≡ true) (sym (length_changed c f all)) (below_changed (length all) c f all keeps ∙ below)

-- before any call
pub stage_new : (schedule : List Step) (room : ℕ) → room ≡ sum_by cost_of schedule → room < 4294967296 → IsStage schedule 0 [] 0 [] [] room
stage_new schedule room is few =
    let all : pending schedule 0 [] 0 ≡ schedule = append-nil schedule in
    record {
      at_fits = omega arith;
      paid_fits = omega arith;
      goes = record { stands = ap (λ (l : List Step). record { connections = []; later = l }) (sym all); fits = omega (arith, is) };
      few = omega (arith, few);
      numbers = refl;
    }

-- the steps to come need no more than the whole
by_need : (old new room k : ℕ) → new + k ≤ old → old ≤ room → k ≤ room
by_need old new room k less fits = omega (arith, less, fits)

before : {schedule : List Step} {entries : List Entry} {room : ℕ} {state : State} → Goes schedule entries room state → need state ≤ room
before {schedule} {entries} {room} {state} goes = subst (λ s. need s ≤ room) goes.stands goes.fits

-- with its parts as they are called elsewhere
pub stays : {schedule : List Step} {at : ℕ} {reports : List ℕ} {paid : ℕ} {all : List Connection} {entries : List Entry} {room k : ℕ} → Enters schedule at reports paid all entries room k
    → (reports' : List ℕ) (all' : List Connection) (entries' : List Entry) (room' : ℕ) → reports' ≡ reports → all' ≡ all → entries' ≡ entries → room' ≡ room - k
    → IsStage schedule at reports' paid all' entries' room'
stays {schedule} {at} {reports} {paid} {all} {entries} {room} {k} e reports' all' entries' room' reports_are all_are entries_are room_is =
    subst (λ r. IsStage schedule at r paid all' entries' room') (sym reports_are)
    (subst (λ a. IsStage schedule at reports paid a entries' room') (sym all_are)
    (subst (λ es. IsStage schedule at reports paid all es room') (sym entries_are)
    (subst (λ n. IsStage schedule at reports paid all entries n) (sym room_is) e.stage)))

-- behind the entry stands which second it was
pub then_second : {schedule : List Step} {at : ℕ} {reports : List ℕ} {paid : ℕ} {all : List Connection} {entries : List Entry} {room k : ℕ} → Enters schedule at reports paid all entries room k
    → (s : ℕ) → Enters schedule at reports paid all (second s ∷ entries) room k
then_second e s = record {
  room_for = e.room_for;
  stage = record {
    at_fits = e.stage.at_fits;
    paid_fits = e.stage.paid_fits;
    goes = record { stands = e.stage.goes.stands; fits = e.stage.goes.fits };
    few = e.stage.few;
    numbers = e.stage.numbers;
  };
}

-- with an entry and the second behind it
pub stays_told : {schedule : List Step} {at : ℕ} {reports : List ℕ} {paid : ℕ} {all : List Connection} {entries : List Entry} {room : ℕ} {entry : Entry} → Enters schedule at reports paid all (entry ∷ entries) room 2
    → (n : ℕ) (all' : List Connection) (entries' : List Entry) (room' : ℕ) → all' ≡ all → entries' ≡ second n ∷ entry ∷ entries → room' ≡ room - 2 → IsStage schedule at reports paid all' entries' room'
stays_told {reports = reports} e n all' entries' room' all_are entries_are room_is = stays (then_second e n) reports all' entries' room' refl all_are entries_are room_is

some_there : (all : List Connection) (c : ℕ) → c < length all → (x : Connection) × (slice_get all c ≡ Some x)
some_there [] c there = absurd (omega arith)
some_there (x ∷ all) zero there = (x, refl)
some_there (x ∷ all) (suc c) there = some_there all c (omega (arith, there))

of_some : {o : Option Connection} {x : Connection} → o ≡ Some x → (P : Connection → Type 0) → IfSome o P → P x
of_some {o} {x} is P h = subst (λ o. IfSome o P) is h

owed_unmet : (places : List ℕ) (entries : List Entry) → after_meeting_one (map owed places) entries ≡ entries
owed_unmet [] entries = refl
owed_unmet (c ∷ places) entries = refl

-- what is played stands so
pub played_is : (schedule : List Step) (at : ℕ) (reports : List ℕ) (paid : ℕ) (all : List Connection) (entries : List Entry) (room : ℕ) → IsStage schedule at reports paid all entries room
    → (p : Played) → record { schedule = schedule; entries = entries; room = room } ≡ p → played_state p ≡ record { connections = all; later = pending schedule at reports paid }
played_is schedule at reports paid all entries room s p is = sym (ap played_state is) ∙ s.goes.stands

module _ (schedule : List Step) (at : ℕ) (reports : List ℕ) (paid : ℕ) (all : List Connection) (entries : List Entry) (room : ℕ) (s : IsStage schedule at reports paid all entries room) where
  abbrev later : List Step
  later = pending schedule at reports paid

  abbrev rest : List Step
  rest = pending schedule (at + 1) reports paid

  next_needs : (step : Step) → slice_get schedule at ≡ Some step → need (record { connections = all; later = step ∷ rest }) ≤ room
  next_needs step is = subst (λ (l : List Step). need (record { connections = all; later = l }) ≤ room) (next_pending schedule at reports paid step is) (before s.goes)

  pub stage_opened : (window : ℕ) (bytes : List ℕ) (number : ℕ) → slice_get schedule at ≡ Some (Opens window bytes) → number ≤ length all
      → Enters schedule (at + 1) reports paid (all ++ new_connection number window bytes ∷ []) (opened number ∷ entries) room 2
  stage_opened window bytes number is low =
      let x = new_connection number window bytes in
      let less = opened_needs all rest window bytes x (omega arith) in
      let fits = by_need _ _ room 2 less (next_needs (Opens window bytes) is) in
      let long : length (all ++ x ∷ []) ≡ length all + 1 = length-append all (x ∷ []) in
      let few = s.few in
      record {
        room_for = fits;
        stage = record {
          at_fits = let w = slice_get_within schedule at (Opens window bytes) is in omega (arith, w);
          paid_fits = s.paid_fits;
          goes = goes_by schedule entries room 2 (opened number) all later rest (Opens window bytes) (record { connections = all ++ x ∷ []; later = rest }) s.goes (next_pending schedule at reports paid (Opens window bytes) is) refl less;
          few = omega (arith, long, few, fits);
          numbers = subst (λ n. are_below n (all ++ x ∷ []) ≡ true) (sym long) (below_push (length all) all x s.numbers low);
        };
      }

  pub stage_turned : slice_get schedule at ≡ Some TurnsAway → Enters schedule (at + 1) reports paid all (turned_away ∷ entries) room 2
  stage_turned is =
      let less = turned_needs all rest in
      let fits = by_need _ _ room 2 less (next_needs TurnsAway is) in
      let few = s.few in
      record {
        room_for = fits;
        stage = record {
          at_fits = let w = slice_get_within schedule at TurnsAway is in omega (arith, w);
          paid_fits = s.paid_fits;
          goes = goes_by schedule entries room 2 turned_away all later rest TurnsAway (record { connections = all; later = rest }) s.goes (next_pending schedule at reports paid TurnsAway is) refl less;
          few = omega (arith, few, fits);
          numbers = s.numbers;
        };
      }

  changed_stage : (at' : ℕ) (reports' : List ℕ) (paid' k : ℕ) (c : ℕ) (f : Connection → Connection) (entry : Entry) → KeepsNumber f → at' ≤ length schedule → paid' ≤ length reports' → k ≤ room
      → Goes schedule (entry ∷ entries) (room - k) (record { connections = changed c f all; later = pending schedule at' reports' paid' })
      → Enters schedule at' reports' paid' (changed c f all) (entry ∷ entries) room k
  changed_stage at' reports' paid' k c f entry keeps at_fits paid_fits fits goes =
      let long = length_changed c f all in
      let few = s.few in
      record {
        room_for = fits;
        stage = record {
          at_fits = at_fits;
          paid_fits = paid_fits;
          goes = goes;
          few = omega (arith, long, few, fits);
          numbers = below_after all c f keeps s.numbers;
        };
      }

  pub stage_reported : (c : ℕ) (change : Change) (number : ℕ) → slice_get schedule at ≡ Some (Reports c change)
      → Enters schedule (at + 1) reports paid (changed c (after_change change) all) (reported number ∷ entries) room 2
  stage_reported c change number is =
      let less = reported_needs all rest c change in
      let w = slice_get_within schedule at (Reports c change) is in
      changed_stage (at + 1) reports paid 2 c (after_change change) (reported number) (λ x. refl) (omega (arith, w)) s.paid_fits (by_need _ _ room 2 less (next_needs (Reports c change) is))
      (goes_by schedule entries room 2 (reported number) all later rest (Reports c change) (record { connections = changed c (after_change change) all; later = rest }) s.goes (next_pending schedule at reports paid (Reports c change) is) refl less)

  pub stage_happened : (c : ℕ) (change : Change) (number : ℕ) → slice_get schedule at ≡ Some (Happens c change)
      → Enters schedule (at + 1) reports paid (changed c (after_change change) all) (reported number ∷ entries) room 2
  stage_happened c change number is =
      let more = happened_needs all rest c change in
      let less : need (record { connections = changed c (after_change change) all; later = rest }) + 2 ≤ need (record { connections = all; later = Happens c change ∷ rest }) = omega (arith, more) in
      let w = slice_get_within schedule at (Happens c change) is in
      changed_stage (at + 1) reports paid 2 c (after_change change) (reported number) (λ x. refl) (omega (arith, w)) s.paid_fits (by_need _ _ room 2 less (next_needs (Happens c change) is))
      (goes_by schedule entries room 2 (reported number) all later rest (Happens c change) (record { connections = changed c (after_change change) all; later = rest }) s.goes (next_pending schedule at reports paid (Happens c change) is) refl less)

  pub stage_paid : (c number : ℕ) → drop at schedule ≡ [] → slice_get reports paid ≡ Some c
      → Enters schedule at reports (paid + 1) (changed c (after_change nothing) all) (reported number ∷ entries) room 2
  stage_paid c number over is =
      let rest' = pending schedule at reports (paid + 1) in
      let next = next_owed schedule at reports paid c over is in
      let less = reported_needs all rest' c nothing in
      let w = slice_get_within reports paid c is in
      changed_stage at reports (paid + 1) 2 c (after_change nothing) (reported number) (λ x. refl) s.at_fits (omega (arith, w))
      (by_need _ _ room 2 less (subst (λ (l : List Step). need (record { connections = all; later = l }) ≤ room) next (before s.goes)))
      (goes_by schedule entries room 2 (reported number) all later rest' (owed c) (record { connections = changed c (after_change nothing) all; later = rest' }) s.goes next refl less)

  pub stage_met : (c : ℕ) (change : Change) → slice_get schedule at ≡ Some (Happens c change)
      → Enters schedule (at + 1) (reports ++ c ∷ []) paid (changed c (after_change change) all) (met ∷ entries) room 1
  stage_met c change is =
      let all' = changed c (after_change change) all in
      let later' = pending schedule (at + 1) (reports ++ c ∷ []) paid in
      let push = more_pending schedule (at + 1) reports paid c s.paid_fits in
      let more = happened_needs all rest c change in
      let owes = pushed_needs all' rest (owed c) in
      let whole : need (record { connections = all'; later = later' }) ≡ need (record { connections = all'; later = rest ++ owed c ∷ [] }) = ap (λ (l : List Step). need (record { connections = all'; later = l })) push in
      let less : need (record { connections = all'; later = later' }) + 1 ≤ need (record { connections = all; later = Happens c change ∷ rest }) = omega (arith, more, owes, whole) in
      let w = slice_get_within schedule at (Happens c change) is in
      let p = s.paid_fits in
      changed_stage (at + 1) (reports ++ c ∷ []) paid 1 c (after_change change) met (λ x. refl) (omega (arith, w)) (omega (arith, p, length-append reports (c ∷ [])))
      (by_need _ _ room 1 less (next_needs (Happens c change) is))
      (goes_by schedule entries room 1 met all later rest (Happens c change) (record { connections = all'; later = later' }) s.goes (next_pending schedule at reports paid (Happens c change) is)
      (ap (λ (l : List Step). record { connections = all'; later = l }) (sym push)) less)

  same_later : (f : Connection → Connection) (c k : ℕ) (entry : Entry) → KeepsNumber f
      → after entry (record { connections = all; later = later }) ≡ record { connections = changed c f all; later = later }
      → need (record { connections = changed c f all; later = later }) + k ≤ need (record { connections = all; later = later })
      → Enters schedule at reports paid (changed c f all) (entry ∷ entries) room k
  same_later f c k entry keeps moves less =
      changed_stage at reports paid k c f entry keeps s.at_fits s.paid_fits (by_need _ _ room k less (before s.goes))
      (goes_on schedule entries room k entry (record { connections = all; later = later }) (record { connections = changed c f all; later = later }) s.goes moves less)

  pub stage_received : (c : ℕ) (bytes : List ℕ) (x : Connection) → slice_get all c ≡ Some x → 0 < length bytes → length bytes ≤ length x.waiting
      → Enters schedule at reports paid (changed c (after_read (length bytes)) all) (received c bytes ∷ entries) room 2
  stage_received c bytes x is some fits =
      same_later (after_read (length bytes)) c 2 (received c bytes) (λ x. refl) refl (read_needs all later c (length bytes) x is some fits)

  pub stage_sent : (c : ℕ) (bytes : List ℕ) (x : Connection) → slice_get all c ≡ Some x → length bytes ≤ x.window
      → Enters schedule at reports paid (changed c (after_write (length bytes)) all) (sent c bytes ∷ entries) room (length bytes)
  stage_sent c bytes x is fits =
      same_later (after_write (length bytes)) c (length bytes) (sent c bytes) (λ x. refl) refl (write_needs all later c (length bytes) x is fits)

  pub stage_closed : (c : ℕ) (x : Connection) → slice_get all c ≡ Some x → x.is_closed ≡ false
      → Enters schedule at reports paid (changed c after_close all) (closed c ∷ entries) room 1
  stage_closed c x is unclosed = same_later after_close c 1 (closed c) (λ x. refl) refl (close_needs all later c x is unclosed)

  pub stage_asked : (c : ℕ) (x : Connection) → slice_get all c ≡ Some x → 0 < x.asks
      → Enters schedule at (reports ++ c ∷ []) paid (changed c after_ask all) (asked c ∷ entries) room 1
  stage_asked c x is some =
      let all' = changed c after_ask all in
      let later' = pending schedule at (reports ++ c ∷ []) paid in
      let push = more_pending schedule at reports paid c s.paid_fits in
      let more = ask_needs all later c x is some in
      let owes = pushed_needs all' later (owed c) in
      let whole : need (record { connections = all'; later = later' }) ≡ need (record { connections = all'; later = later ++ owed c ∷ [] }) = ap (λ (l : List Step). need (record { connections = all'; later = l })) push in
      let less : need (record { connections = all'; later = later' }) + 1 ≤ need (record { connections = all; later = later }) = omega (arith, more, owes, whole) in
      let p = s.paid_fits in
      changed_stage at (reports ++ c ∷ []) paid 1 c after_ask (asked c) (λ x. refl) s.at_fits (omega (arith, p, length-append reports (c ∷ [])))
      (by_need _ _ room 1 less (before s.goes))
      (goes_on schedule entries room 1 (asked c) (record { connections = all; later = later }) (record { connections = all'; later = later' }) s.goes
      (ap (λ (l : List Step). record { connections = all'; later = l }) (sym push)) less)

  module _ (p : Played) (view : record { schedule = schedule; entries = entries; room = room } ≡ p) where
    all_are : played_connections p ≡ all
    all_are = ap (λ (st : State). st.connections) (played_is schedule at reports paid all entries room s p view)

    later_is : (played_state p).later ≡ later
    later_is = ap (λ (st : State). st.later) (played_is schedule at reports paid all entries room s p view)

    pub there_too : (c : ℕ) → c < length (played_connections p) → c < length all
    there_too c there = subst (λ l. c < length l) all_are there

    pub meets_none : drop at schedule ≡ [] → after_meeting_one (played_state p).later p.entries ≡ p.entries
    meets_none over =
        ap (λ l. after_meeting_one l p.entries) (later_is ∙ ap (λ l. l ++ map owed (drop paid reports)) over) ∙ owed_unmet (drop paid reports) p.entries

    pub closes_there : (c : ℕ) → c < length (played_connections p) → IfSome (slice_get (played_connections p) c) (λ x. x.is_closed ≡ false)
        → Enters schedule at reports paid (changed c after_close all) (closed c ∷ entries) room 1
    closes_there c there unclosed =
        let x = some_there all c (there_too c there) in
        stage_closed c x.0 x.1 (of_some x.1 (λ y. y.is_closed ≡ false) (subst (λ l. IfSome (slice_get l c) (λ y. y.is_closed ≡ false)) all_are unclosed))

    pub asks_there : (c : ℕ) → c < length (played_connections p) → IfSome (slice_get (played_connections p) c) (λ x. 0 < x.asks)
        → Enters schedule at (reports ++ c ∷ []) paid (changed c after_ask all) (asked c ∷ entries) room 1
    asks_there c there some =
        let x = some_there all c (there_too c there) in
        stage_asked c x.0 x.1 (of_some x.1 (λ y. 0 < y.asks) (subst (λ l. IfSome (slice_get l c) (λ y. 0 < y.asks)) all_are some))

    -- a read of a connection at which something waits
    module _ (c : ℕ) (there : c < length (played_connections p)) (x : Connection) (x_is : x ≡ slice_index_or all c x) where
      is : slice_get all c ≡ Some x
      is = slice_get-get_or all c x (there_too c there) ∙ ap Some (sym x_is)

      pub reads_there : (most : ℕ) (bytes : List ℕ) → 0 < most → 0 < length x.waiting → IfSome (slice_get all c) (λ y. length bytes ≡ min (length y.waiting) most)
          → Enters schedule at reports paid (changed c (after_read (length bytes)) all) (received c bytes ∷ entries) room 2
      reads_there most bytes some waits count =
          let n = of_some is (λ y. length bytes ≡ min (length y.waiting) most) count in
          stage_received c bytes x is (omega (arith, n, some, waits)) (omega (arith, n))

      module _ (most : ℕ) (bytes : List ℕ) (some : 0 < most) (waits : 0 < length x.waiting) (count : IfSome (slice_get all c) (λ y. length bytes ≡ min (length y.waiting) most)) where
        n : length bytes ≡ min (length x.waiting) most
        n = of_some is (λ y. length bytes ≡ min (length y.waiting) most) count

        pub fits_there : (room : ℕ) → most ≤ room → (0 < length bytes) × (length bytes ≤ room)
        fits_there room fits = (omega (arith, n, some, waits), omega (arith, n, fits))

        module _ (out : List ℕ) (given : IfSome (slice_get all c) (λ y. bytes ≡ take (min (length y.waiting) most) y.waiting)) (front : take (length bytes) out ≡ bytes) where
          gives : GivesSome x most out (length bytes)
          gives =
              let g = of_some is (λ y. bytes ≡ take (min (length y.waiting) most) y.waiting) given in
              (omega (arith, n, some, waits), n, front ∙ g ∙ ap (λ k. take k x.waiting) (sym n))

          gives_as : (input : Input) → IsGiven x most out (Ok input) → IfSome (slice_get (played_connections p) c) (λ y. IsGiven y most out (Ok input))
          gives_as input is_given =
              subst (λ l. IfSome (slice_get l c) (λ y. IsGiven y most out (Ok input))) (sym all_are) (subst (λ o. IfSome o (λ y. IsGiven y most out (Ok input))) (sym is) is_given)

          pub gives_there : IfSome (slice_get (played_connections p) c) (λ y. IsGiven y most out (Ok (Bytes (length bytes))))
          gives_there = gives_as (Bytes (length bytes)) gives

          -- and leaves none
          pub gives_all_there : (length x.waiting ≤ most) × (x.is_broken ≡ false) × (x.has_ended ≡ false)
              → IfSome (slice_get (played_connections p) c) (λ y. IsGiven y most out (Ok (All (length bytes))))
          gives_all_there few = gives_as (All (length bytes)) (gives, (let within = few.0 in omega (arith, n, within), few.1, few.2))

      pub sends_there : (count : ℕ) (bytes : List ℕ) → count ≤ x.window → count ≤ length bytes
          → Enters schedule at reports paid (changed c (after_write count) all) (sent c (take count bytes) ∷ entries) room (length (take count bytes))
      sends_there count bytes fits long =
          let n : length (take count bytes) ≡ count = length-take-le count bytes long in
          subst (λ k. Enters schedule at reports paid (changed c (after_write k) all) (sent c (take count bytes) ∷ entries) room (length (take count bytes))) n
          (stage_sent c (take count bytes) x is (omega (arith, n, fits)))

      pub takes_there : (most count : ℕ) (bytes : List ℕ) → x.is_broken ≡ false → count ≡ min (length bytes) (min x.window most)
          → IfSome (slice_get (played_connections p) c) (λ y. IsTaken y most bytes (Ok count))
      takes_there most count bytes whole is_count =
          subst (λ l. IfSome (slice_get l c) (λ y. IsTaken y most bytes (Ok count))) (sym all_are)
          (subst (λ o. IfSome o (λ y. IsTaken y most bytes (Ok count))) (sym is) (whole, is_count))
