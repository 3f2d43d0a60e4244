-- What a desk keeps: work lies in the slot from when it is handed until it is taken, and from when it is given back until it is taken back. The end is told once, at a free desk.
use Rattle.std.specs.Prelude.{◌≡◌, ℕ, zero, suc, ◌⊎◌, List, [], ◌∷◌, Bool, true, false, Option, Some, None}
use mathlib.Core.Option.{Option as Home, some, none}
use Rattle.atomic_table.specs.Table.{State}
use Rattle.atomic_table.specs.Seated.{TableId}
use Rattle.work_desk.specs.declared.rule.DeskSeatView.{DeskSeatView}
use Rattle.work_desk.specs.declared.rule.Stage.{Stage}
use Rattle.work_desk.specs.declared.rule.Stage.TheVariants.{New, Open, Gives, Told, Does, Dismissed}

module _ {T S : Type 0} where
  -- who hands work over: what was handed and not taken back
  abbrev pub giver : S → Option T → DeskSeatView T S
  giver terms work = record { stage = Gives; terms = terms; work = work }

  -- who does it: what is in hand
  abbrev pub doer : S → Option T → DeskSeatView T S
  doer terms work = record { stage = Does; terms = terms; work = work }

  -- who handed work over, and has told that there is no more
  abbrev pub told : S → DeskSeatView T S
  told terms = record { stage = Told; terms = terms; work = None }

  -- who did it, and has found that there is no more
  abbrev pub dismissed : S → DeskSeatView T S
  dismissed terms = record { stage = Dismissed; terms = terms; work = None }

  -- a side at work, or behind the end with nothing in hand
  abbrev pub IsSide : Stage → Stage → DeskSeatView T S → Type 0
  IsSide works ended side = (side.stage ≡ works) ⊎ ((side.stage ≡ ended) × (side.work ≡ None))

  abbrev pub new : S → DeskSeatView T S
  new unset = record { stage = New; terms = unset; work = None }

  abbrev pub open_desk : S → DeskSeatView T S
  open_desk unset = record { stage = Open; terms = unset; work = None }

  abbrev pub desk : ℕ → Home (Option T) → List (DeskSeatView T S) → State (Option T) (DeskSeatView T S)
  desk word home views = record { words = word ∷ []; homes = home ∷ []; views = views }

  module _ (ready : S → T → Type 0) (done : S → T → T → Type 0) where
    -- the word and the slot, by what was handed and by what is in hand. The word is 1 from when work is handed until it is given back, and 0 else
    abbrev pub Stands : S → ℕ → Home (Option T) → Option T → Option T → Type 0
    Stands terms word home None None = (word ≡ 0) × (home ≡ none)
    Stands terms word home None (Some u) = ⊥
    Stands terms word home (Some t) (Some u) = (word ≡ 1) × (home ≡ none) × (u ≡ t)
    Stands terms word home (Some t) None = ((word ≡ 1) × (home ≡ some (Some t)) × ready terms t)
        ⊎ ((word ≡ 0) × ((u : T) × (home ≡ some (Some u)) × done terms t u))

    -- a desk with its two sides
    pub record Runs (s : State (Option T) (DeskSeatView T S)) : Type 0 where
      pub word : ℕ
      pub home : Home (Option T)
      pub terms : S
      pub handed : Option T
      pub in_hand : Option T
      pub is : s ≡ desk word home (giver terms handed ∷ doer terms in_hand ∷ [])
      pub stands : Stands terms word home handed in_hand

  -- a desk whose end was told. Who did the work has found it, or not yet
  pub record Ended (s : State (Option T) (DeskSeatView T S)) : Type 0 where
    pub terms : S
    pub other : DeskSeatView T S
    pub is : s ≡ desk 2 none (told terms ∷ other ∷ [])
    pub knows : (other ≡ doer terms None) ⊎ (other ≡ dismissed terms)

  -- the rule
  abbrev pub IsLawful : S → (S → T → Type 0) → (S → T → T → Type 0) → State (Option T) (DeskSeatView T S) → Type 0
  IsLawful unset ready done s = (s ≡ desk 0 (some None) (new unset ∷ [])) ⊎ ((s ≡ desk 0 none (open_desk unset ∷ [])) ⊎ (Runs ready done s ⊎ Ended s))

module _ {T : Type 0} where
  abbrev pub is_empty_slot : ℕ → Option T → Bool
  is_empty_slot zero None = true
  is_empty_slot zero (Some t) = false
  is_empty_slot (suc k) x = false

  -- whether a seat with these slots has the one slot, and nothing in it; or has none
  abbrev pub has_slot : Bool → List (ℕ × Option T) → Bool
  has_slot true [] = false
  has_slot true (x ∷ []) = is_empty_slot x.0 x.1
  has_slot true (x ∷ y ∷ xs) = false
  has_slot false [] = true
  has_slot false (x ∷ xs) = false

-- a seat at a table of one word and one slot
pub record IsAtDesk (table seat : TableId) : Type 0 where
  pub same : seat ≡ table
  pub one_word : table.words ≡ 1
  pub one_slot : table.slots ≡ 1
