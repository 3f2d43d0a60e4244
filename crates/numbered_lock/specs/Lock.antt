-- What a lock keeps: what lies under it has its number.
use Rattle.std.specs.Prelude.{◌≡◌, ◌≢◌, ◌<◌, ℕ, List, [], ◌∷◌, Option, Some, None}
use mathlib.Core.Option.{Option as Home, some, none}
use lib.ListN.{get_elem?}
use Rattle.atomic_table.specs.Table.{State, Me, Step, rest}
use Rattle.atomic_table.specs.Seated.{TableId}
use Rattle.numbered_lock.specs.declared.rule.LockSeatView.{LockSeatView}

-- what whoever comes to the lock of a number knows
abbrev pub seat_view : ℕ → LockSeatView
seat_view number = record { number = number }

-- which lock it is, and its number
pub record LockView : Type 0 where
  pub table : TableId
  pub number : ℕ

abbrev pub lock_view : TableId → ℕ → LockView
lock_view table number = record { table = table; number = number }

abbrev pub Seated : Type 0 → Type 0
Seated X = Me (Option X) LockSeatView

module _ {X : Type 0} where
  -- whoever came to the lock holds x
  pub record Holds (lock : LockView) (x : X) (table : TableId) (me : Seated X) : Type 0 where
    pub table_is : table ≡ lock.table
    pub me_is : me ≡ (seat_view lock.number, (0, Some x) ∷ [])

  abbrev pub comes : Step (Option X) → Seated X → ℕ → Seated X → Type 0
  comes step me found now = now ≡ me

  -- what was held last lies there again
  abbrev pub gives_back : Step (Option X) → Seated X → ℕ → Seated X → Type 0
  gives_back step me found now = now ≡ (me.0, rest me.1)

module _ {X : Type 0} (number_of : X → ℕ) where
  -- something of the lock's number is held
  abbrev pub IsHeld : LockView → TableId → Seated X → Type 0
  IsHeld lock table me = (x : X) × (number_of x ≡ lock.number) × Holds lock x table me

  -- a lock that nobody holds has what has its number under it, and is free or will be told to be
  abbrev pub Stands : ℕ → ℕ → Home (Option X) → Type 0
  Stands number word none = 0 < word
  Stands number word (some None) = ⊥
  Stands number word (some (Some x)) = number_of x ≡ number

  -- The rule. The first word is 0 only where something lies there.
  pub record IsKept (number : ℕ) (s : State (Option X) LockSeatView) : Type 0 where
    pub word : ℕ
    pub others : List ℕ
    pub home : Home (Option X)
    pub words_are : s.words ≡ word ∷ others
    pub homes_are : s.homes ≡ home ∷ []
    pub stands : Stands number word home
    pub knows : (seat : ℕ) (v : LockSeatView) → get_elem? s.views seat ≡ some v → v ≡ seat_view number

  -- where the word was 0, what lies there is held now, and has the number
  abbrev pub takes_it : Step (Option X) → Seated X → ℕ → Seated X → Type 0
  takes_it step me found now =
      (found ≡ 0 → (x : X) × (number_of x ≡ me.0.number) × (now ≡ (me.0, (0, Some x) ∷ me.1)))
      × (found ≢ 0 → now ≡ me)
