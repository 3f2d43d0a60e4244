-- What each kind of step at a desk tells.
use Rattle.std.specs.Prelude.{◌≡◌, ◌≢◌, ℕ, List, [], ◌∷◌, Option, Some, None, IfSome}
use Rattle.atomic_table.specs.Table.{Me, Step}
use Rattle.work_desk.specs.declared.rule.DeskSeatView.{DeskSeatView}
use Rattle.work_desk.specs.Desk.{giver, told, doer, dismissed, open_desk}

abbrev pub Seated : Type 0 → Type 0 → Type 0
Seated T S = Me (Option T) (DeskSeatView T S)

module _ {T : Type 0} where
  abbrev pub slot_in : List (ℕ × Option T) → Option T
  slot_in [] = None
  slot_in (x ∷ xs) = x.1

module _ {T S : Type 0} where
  -- the slot was taken
  abbrev pub opens : Step (Option T) → Seated T S → ℕ → Seated T S → Type 0
  opens step me n now = now ≡ (open_desk me.0.terms, (0, None) ∷ [])

  -- what lay in the slot was handed
  abbrev pub hands : Step (Option T) → Seated T S → ℕ → Seated T S → Type 0
  hands step me n now = now ≡ (giver me.0.terms (slot_in me.1), [])

  abbrev pub gives_back : Step (Option T) → Seated T S → ℕ → Seated T S → Type 0
  gives_back step me n now = now ≡ (doer me.0.terms None, [])

  -- the end was told
  abbrev pub ends : Step (Option T) → Seated T S → ℕ → Seated T S → Type 0
  ends step me n now = now ≡ (told me.0.terms, me.1)

  -- work that may be handed was found and taken with the slot, or the end was found, or nothing happened
  abbrev pub looks : (S → T → Type 0) → Step (Option T) → Seated T S → ℕ → Seated T S → Type 0
  looks ready step me n now =
      (n ≡ 1 → (t : T) × ready me.0.terms t × (now ≡ (doer me.0.terms (Some t), (0, Some t) ∷ [])))
      × (n ≡ 2 → now ≡ (dismissed me.0.terms, me.1))
      × (n ≢ 1 → n ≢ 2 → now ≡ me)

  -- what was done to the work that was handed was taken with the slot, or nothing happened
  abbrev pub awaits : (S → T → T → Type 0) → Step (Option T) → Seated T S → ℕ → Seated T S → Type 0
  awaits done step me n now = (n ≡ 0 → (u : T) × IfSome me.0.work (λ t. done me.0.terms t u) × (now ≡ (giver me.0.terms None, (0, Some u) ∷ []))) × (n ≢ 0 → now ≡ me)
