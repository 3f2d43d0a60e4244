-- A list whose elements are changed one after another.
use Rattle.std.proofs.Common.{◌≡◌, ℕ, ◌+◌, ◌<◌, ◌≤◌, inl, inr, List, length, Some, slice_get, slice_set, sym, ◌∙◌, subst, arith}
use Rattle.std.proofs.lemmas.List.{length-set}
use Rattle.std.proofs.lemmas.Grind.{common_steps}
use Rattle.list_laws.proofs.Places.{set_cases}

-- the first of them are changed, and the rest are as they were
pub record UpTo {X : Type 0} (R : X → X → Type 0) (q : ℕ) (olds news : List X) : Type 0 where
  pub many : length news ≡ length olds
  pub done : (i : ℕ) (old new : X) → i < q → slice_get olds i ≡ Some old → slice_get news i ≡ Some new → R old new
  pub later : (i : ℕ) (old new : X) → q ≤ i → slice_get olds i ≡ Some old → slice_get news i ≡ Some new → new ≡ old

pub up_none : {X : Type 0} (R : X → X → Type 0) (xs : List X) → UpTo R 0 xs xs
up_none R xs = grind (arith, common_steps)

pub up_one : {X : Type 0} (R : X → X → Type 0) (q : ℕ) (olds mids : List X) (mid new : X) → UpTo R q olds mids → slice_get mids q ≡ Some mid → R mid new → UpTo R (q + 1) olds (slice_set mids q new)
up_one {X = X} R q olds mids mid new so_far at one = record {
  many = length-set mids q new ∙ so_far.many;
  done = λ i old x less is_old is_new.
      elim (set_cases mids q new i x is_new) as (λ _. R old x) [
        | inl same ↦
            let is_old_here : slice_get olds q ≡ Some old = subst (λ (n : ℕ). slice_get olds n ≡ Some old) (sym same.0) is_old in
            let was : mid ≡ old = so_far.later q old mid (omega arith) is_old_here at in
            subst (λ (y : X). R old y) same.1 (subst (λ (y : X). R y new) was one)
        | inr other ↦ so_far.done i old x (before i less other.0) is_old other.1
      ];
  later = λ i old x from is_old is_new.
      elim (set_cases mids q new i x is_new) as (λ _. x ≡ old) [
        | inl same ↦ let here = same.0 in absurd (omega arith)
        | inr other ↦ so_far.later i old x (omega arith) is_old other.1
      ];
}
  where
    before : (i : ℕ) → i < q + 1 → (q ≡ i → ⊥) → i < q
    before i less other = omega arith
