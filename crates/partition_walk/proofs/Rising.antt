-- Lists that rise.
use Rattle.std.proofs.Common.{◌≡◌, inl, inr, ℕ, suc, ◌<◌, List, [], ◌∷◌, refl, sym, subst, arith}
use Rattle.std.specs.Prelude.{AllPairs, Contains}
use Rattle.std.specs.List.Sorted.{IsStrictlyIncreasing}
use Rattle.std.proofs.lemmas.List.Kept.{AllPairs-from_increasing}
use Rattle.partition_words.proofs.Failing.{in_cons, in_head, in_tail, in_none}

-- each is below all behind it
abbrev pub Rises : List ℕ → Type 0
Rises [] = Unit {0}
Rises (x ∷ xs) = ((y : ℕ) → Contains xs y → x < y) × Rises xs

rises_by : (xs : List ℕ) → AllPairs (λ x y. x < y) xs → Rises xs
rises_by [] pairs = tt
rises_by (x ∷ xs) pairs = (
  λ y i. subst (λ (z : ℕ). x < z) i.2 (pairs 0 (suc i.0) y (omega arith) (omega (arith, i.1))),
  rises_by xs (λ i j d less within. pairs (suc i) (suc j) d (omega arith) (omega arith)),
)

pub rises_of : (xs : List ℕ) → IsStrictlyIncreasing xs → Rises xs
rises_of xs increasing = rises_by xs (AllPairs-from_increasing xs increasing)

-- two that rise and have the same numbers are one
pub same_risen : (xs ys : List ℕ) → Rises xs → Rises ys → ((z : ℕ) → Contains xs z → Contains ys z) → ((z : ℕ) → Contains ys z → Contains xs z) → xs ≡ ys
same_risen [] [] rx ry there back = refl
same_risen [] (y ∷ ys) rx ry there back = absurd (in_none y (back y (in_head y ys)))
same_risen (x ∷ xs) [] rx ry there back = absurd (in_none x (there x (in_head x xs)))
same_risen (x ∷ xs) (y ∷ ys) rx ry there back =
    let first : x ≡ y = elim (in_cons y x ys (there x (in_head x xs))) [
      | inl is ↦ sym is
      | inr more ↦ elim (in_cons x y xs (back y (in_head y ys))) [ inl is ↦ is | inr other ↦ absurd (let one = rx.0 y other in let two = ry.0 x more in omega arith) ]
    ] in
    let rest : xs ≡ ys = same_risen xs ys rx.1 ry.1
    (λ z i. elim (in_cons y z ys (there z (in_tail x z xs i))) [ inl is ↦ absurd (let less = rx.0 z i in omega arith) | inr more ↦ more ])
    (λ z i. elim (in_cons x z xs (back z (in_tail y z ys i))) [ inl is ↦ absurd (let less = ry.0 z i in omega arith) | inr more ↦ more ]) in
    cc
