-- The steps to come, and what stands after an entry.
use Rattle.std.proofs.Common.{◌≡◌, ℕ, suc, ◌+◌, ◌-◌, ◌<◌, ◌≤◌, true, List, [], ◌∷◌, ◌++◌, length, refl, sym, ap, ◌∙◌, subst, arith}
use Rattle.std.specs.Prelude.{nat_lt, slice_get, slice_index_or, take, drop, map, get_or, Some}
use Rattle.std.specs.List.{sum_by}
use Rattle.std.proofs.Math.Seq.{drop-cons}
use Rattle.std.proofs.Math.Numerals.{suc-eq-add-one}
use Rattle.std.proofs.lemmas.List.{map-append, append_assoc, drop-append-le, take_more}
use Rattle.std.proofs.lemmas.List.Sums.{sum_by_push}
use Rattle.std.proofs.lemmas.Option.{slice_get_within, get_or_from_slice_get, slice_get_read}
use Rattle.std.proofs.lemmas.Bool.{ltb-true}
use Rattle.connections.specs.declared.schedule.Step.{Step}
use Rattle.connections.specs.Connection.{Connection}
use Rattle.connections.specs.State.{State, Entry, after, state_after}
use Rattle.memory_connections.specs.MemoryConnection.{owed, pending, need, cost_of}
use Rattle.memory_connections.specs.Stage.{Goes}

drop_step : {X : Type 0} (xs : List X) (i : ℕ) (x : X) → slice_get xs i ≡ Some x → drop i xs ≡ x ∷ drop (i + 1) xs
drop_step xs i x is =
    drop-cons xs i x (slice_get_within xs i x is) ∙ ap (λ y. y ∷ drop (suc i) xs) (get_or_from_slice_get xs i x x is)
    ∙ ap (λ n. x ∷ drop n xs) (suc-eq-add-one i)

-- what a look into the schedule found
pub got : {X : Type 0} (xs : List X) (i : ℕ) (x y : X) → true ≡ nat_lt i (length xs) → x ≡ slice_index_or xs i x → x ≡ y → slice_get xs i ≡ Some y
got xs i x y there is same = slice_get_read xs (length xs) i x refl (ltb-true _ _ (sym there)) is ∙ ap Some same

-- the next step is that of the schedule
pub next_pending : (schedule : List Step) (at : ℕ) (reports : List ℕ) (paid : ℕ) (step : Step) → slice_get schedule at ≡ Some step
    → pending schedule at reports paid ≡ step ∷ pending schedule (at + 1) reports paid
next_pending schedule at reports paid step is = ap (λ l. l ++ map owed (drop paid reports)) (drop_step schedule at step is)

-- behind the schedule, it is a report that is owed
pub next_owed : (schedule : List Step) (at : ℕ) (reports : List ℕ) (paid c : ℕ) → drop at schedule ≡ [] → slice_get reports paid ≡ Some c
    → pending schedule at reports paid ≡ owed c ∷ pending schedule at reports (paid + 1)
next_owed schedule at reports paid c over is =
    ap (λ l. l ++ map owed (drop paid reports)) over ∙ ap (map owed) (drop_step reports paid c is)
    ∙ sym (ap (λ l. owed c ∷ (l ++ map owed (drop (paid + 1) reports))) over)

-- one report more is owed
pub more_pending : (schedule : List Step) (at : ℕ) (reports : List ℕ) (paid c : ℕ) → paid ≤ length reports
    → pending schedule at (reports ++ c ∷ []) paid ≡ pending schedule at reports paid ++ owed c ∷ []
more_pending schedule at reports paid c fits =
    ap (λ l. drop at schedule ++ map owed l) (drop-append-le paid reports (c ∷ []) fits)
    ∙ ap (λ l. drop at schedule ++ l) (map-append owed (drop paid reports) (c ∷ []))
    ∙ sym (append_assoc (drop at schedule) (map owed (drop paid reports)) (owed c ∷ []))

-- with one entry more
pub goes_on : (schedule : List Step) (entries : List Entry) (room k : ℕ) (entry : Entry) (old new : State) → Goes schedule entries room old
    → after entry old ≡ new → need new + k ≤ need old → Goes schedule (entry ∷ entries) (room - k) new
goes_on schedule entries room k entry old new goes moves less =
    let stands : state_after schedule (entry ∷ entries) ≡ new = ap (after entry) goes.stands ∙ moves in
    let before : need old ≤ room = subst (λ s. need s ≤ room) goes.stands goes.fits in
    record { stands = stands; fits = subst (λ s. need s ≤ room - k) (sym stands) (omega (arith, less, before)) }

-- a log goes on by one entry where the next step is known
pub goes_by : (schedule : List Step) (entries : List Entry) (room k : ℕ) (entry : Entry) (all : List Connection) (later rest : List Step) (step : Step) (new : State)
    → Goes schedule entries room (record { connections = all; later = later }) → later ≡ step ∷ rest
    → after entry (record { connections = all; later = step ∷ rest }) ≡ new
    → need new + k ≤ need (record { connections = all; later = step ∷ rest }) → Goes schedule (entry ∷ entries) (room - k) new
goes_by schedule entries room k entry all later rest step new goes next moves less =
    let s : State = record { connections = all; later = step ∷ rest } in
    let is : state_after schedule entries ≡ s = goes.stands ∙ ap (λ (l : List Step). record { connections = all; later = l }) next in
    goes_on schedule entries room k entry s new (record { stands = is; fits = goes.fits }) moves less

-- the sum of costs goes on by one step
pub costs_on : (schedule : List Step) (i : ℕ) (d : Step) → i < length schedule → sum_by cost_of (take (i + 1) schedule) ≡ sum_by cost_of (take i schedule) + cost_of (get_or schedule i d)
costs_on schedule i d there = ap (sum_by cost_of) (take_more schedule i d there) ∙ sum_by_push cost_of (take i schedule) (get_or schedule i d)
