-- What is known of a partition and of its fronts once it was taken back from its lock.
use Rattle.std.proofs.Common.{◌≡◌, ◌≢◌, ℕ, ◌<◌, ◌≤◌, ◌==◌, true, false, List, [], ◌∷◌, map, Some, None, cond, refl, sym, ap, ◌∙◌, inl, inr, eq-eqb}
use Rattle.std.specs.List.{AllByRecursion, cons_option}
use Rattle.std.proofs.lemmas.Bool.{cases_lt}
use Rattle.fronts.specs.Placed.{steps_by, steps_in}
use Rattle.turn_book.specs.declared.rule.Entry.{Entry}
use Rattle.turn_book.specs.Entries.{entries_by}
use Rattle.locked_front.specs.declared.owned.Step.{Step}
use Rattle.locked_front.specs.Owned.{run_step, run_in}
use Rattle.locked_front.specs.Returned.{placed_in}

-- the run is that of the placed steps
pub steps_in_run : (entries : List (Entry Step)) → steps_in (placed_in entries) ≡ run_in entries
steps_in_run [] = refl
steps_in_run (e ∷ entries) = ap (λ l. run_step e.what ∷ l) (steps_in_run entries)

-- a front's steps are what it entered
pub steps_of_entries : (f : ℕ) (entries : List (Entry Step)) → steps_by f (placed_in entries) ≡ map run_step (entries_by f entries)
steps_of_entries f [] = refl
steps_of_entries f (e ∷ entries) =
    let rest = steps_of_entries f entries in
    elim (e.taker == f) as (λ b. cons_option (cond b (Some (run_step e.what)) None) (steps_by f (placed_in entries)) ≡ map run_step (cons_option (cond b (Some e.what) None) (entries_by f entries))) [
      | true ↦ ap (λ l. run_step e.what ∷ l) rest
      | false ↦ rest
    ]

own_first : (e : Entry Step) (entries : List (Entry Step)) → entries_by e.taker (e ∷ entries) ≢ []
own_first e entries none =
    let is : entries_by e.taker (e ∷ entries) ≡ e.what ∷ entries_by e.taker entries = ap (λ b. cons_option (cond b (Some e.what) None) (entries_by e.taker entries)) (eq-eqb e.taker e.taker refl) in
    absurd (cc (sym is ∙ none))

rest_none : (f : ℕ) (e : Entry Step) (entries : List (Entry Step)) → entries_by f (e ∷ entries) ≡ [] → entries_by f entries ≡ []
rest_none f e entries =
    elim (e.taker == f) as (λ b. cons_option (cond b (Some e.what) None) (entries_by f entries) ≡ [] → entries_by f entries ≡ []) [
      | true ↦ λ none. absurd (cc none)
      | false ↦ λ none. none
    ]

-- all are of fronts that there are
pub low_fronts : (takers : ℕ) (entries : List (Entry Step)) → ((f : ℕ) → takers ≤ f → entries_by f entries ≡ []) → AllByRecursion (λ q. q.front < takers) (placed_in entries)
low_fronts takers [] none = tt
low_fronts takers (e ∷ entries) none = (
  elim (cases_lt e.taker takers) as (λ _. e.taker < takers) [ inl low ↦ low | inr high ↦ absurd (own_first e entries (none e.taker high)) ],
  low_fronts takers entries (λ f high. rest_none f e entries (none f high)),
)
