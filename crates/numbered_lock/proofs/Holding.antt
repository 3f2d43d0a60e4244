-- What is found in what is held of a lock, and what may be left there.
use Rattle.std.proofs.Common.{◌≡◌, ℕ, ◌∷◌, ap, sym, ◌∙◌, Option, Some, None, arith}
use Rattle.std.proofs.lemmas.Option.{same_Some}
use Rattle.atomic_table.specs.Table.{rest}
use Rattle.atomic_table.specs.Seated.{TableId}
use Rattle.numbered_lock.specs.Lock.{LockView, Seated, IsHeld}
use Rattle.numbered_lock.proofs.Keeps.{one_slot, lies_there}

module _ {X : Type 0} (number_of : X → ℕ) (lock : LockView) (table : TableId) (me : Seated X) (held : IsHeld number_of lock table me) where
  -- what a lend or an exchange of the slot asks
  pub may_lend : (old : Option X) × (me.1 ≡ (0, old) ∷ rest me.1)
  may_lend = (Some held.0, one_slot me.1 (0, Some held.0) (ap (λ m. m.1) held.2.me_is))

  -- what lies there has the number
  pub has_number : (y : Option X) (x : X) → me.1 ≡ (0, y) ∷ rest me.1 → y ≡ Some x → number_of x ≡ lock.number
  has_number y x at is = ap number_of (same_Some x held.0 (sym is ∙ lies_there me.1 held.0 y (ap (λ m. m.1) held.2.me_is) at)) ∙ held.1

  pub never_none : (y : Option X) → me.1 ≡ (0, y) ∷ rest me.1 → y ≡ None → ⊥
  never_none y at is = let there = lies_there me.1 held.0 y (ap (λ m. m.1) held.2.me_is) at in grind (arith, is, there)

  -- what has the number may be left there
  pub stays_held : (y : X) → number_of y ≡ lock.number → IsHeld number_of lock table (me.0, (0, Some y) ∷ rest me.1)
  stays_held y is = (y, is, record { table_is = held.2.table_is; me_is = ap (λ (m : Seated X). (m.0, (0, Some y) ∷ rest m.1)) held.2.me_is })
