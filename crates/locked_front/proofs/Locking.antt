-- Locks in order, and what lies under them.
use Rattle.std.proofs.Common.{◌≡◌, ◌⊎◌, inl, inr, ℕ, zero, suc, List, [], ◌∷◌, ◌++◌, length, slice_get, Some, refl, sym, ap, ◌∙◌, arith}
use Rattle.std.proofs.lemmas.Option.{slice_get_within}
use Rattle.numbered_lock.specs.Lock.{LockView}
use Rattle.locked_front.specs.Locks.{AreInOrder}
use Rattle.locked_front.specs.Owned.{Owned}

pub none_in_order : AreInOrder []
none_in_order p lock at = absurd (let low = slice_get_within [] p lock at in omega arith)

at_end : (xs : List LockView) (x : LockView) (p : ℕ) (y : LockView) → slice_get (xs ++ x ∷ []) p ≡ Some y → (slice_get xs p ≡ Some y) ⊎ ((p ≡ length xs) × (y ≡ x))
at_end [] x zero y is = inr (refl, cc)
at_end [] x (suc p) y is = absurd (cc)
at_end (z ∷ xs) x zero y is = inl is
at_end (z ∷ xs) x (suc p) y is = elim (at_end xs x p y is) [
  | inl h ↦ inl h
  | inr h ↦ inr (ap suc h.0, h.1)
]

-- with one more, that has the number of its place
pub one_more : (xs : List LockView) (x : LockView) → AreInOrder xs → x.number ≡ length xs → AreInOrder (xs ++ x ∷ [])
one_more xs x each is p lock at = elim (at_end xs x p lock at) as (λ _. lock.number ≡ p) [
  | inl h ↦ each p lock h
  | inr h ↦ ap (λ (l : LockView). l.number) h.1 ∙ is ∙ sym h.0
]

-- the number of what lies under a lock
abbrev pub number_of : Owned → ℕ
number_of owned = owned.number
