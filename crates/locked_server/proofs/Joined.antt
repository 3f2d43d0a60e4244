-- One list behind another, and what two kinds of fronts have in hand together.
use Rattle.std.proofs.Common.{◌≡◌, ℕ, zero, suc, ◌+◌, ◌⊎◌, inl, inr, List, [], ◌∷◌, ◌++◌, length, map, Some, slice_get, refl, sym, ap, ◌∙◌, subst, arith, length-append}
use Rattle.std.specs.Prelude.{sum_by}
use Rattle.std.proofs.lemmas.List.{length-map, map-append}
use Rattle.std.proofs.lemmas.List.Sums.{sum_by-cons}
use Rattle.served.proofs.Binding.{at_snoc}
use Rattle.locked_front.specs.declared.part.LockedPart.{LockedPart}
use Rattle.locked_front.specs.Plan.{Plan}
use Rattle.locked_server.specs.Opening.{AreNewParts, AreNewHands}

-- where elements of the one and of the other stand
pub at_left : {X : Type 0} (xs ys : List X) (n : ℕ) (x : X) → slice_get xs n ≡ Some x → slice_get (xs ++ ys) n ≡ Some x
at_left [] ys n x at = absurd (cc)
at_left (z ∷ xs) ys zero x at = at
at_left (z ∷ xs) ys (suc n) x at = at_left xs ys n x at

at_place : {X : Type 0} (xs ys : List X) (n m : ℕ) (y : X) → length xs + n ≡ m → slice_get ys n ≡ Some y → slice_get (xs ++ ys) m ≡ Some y
at_place [] ys n m y is at = ap (slice_get ys) (omega (arith, is)) ∙ at
at_place (z ∷ xs) ys n zero y is at = absurd (omega (arith, is))
at_place (z ∷ xs) ys n (suc m) y is at = at_place xs ys n m y (omega (arith, is)) at

pub at_right : {X : Type 0} (xs ys : List X) (n : ℕ) (y : X) → slice_get ys n ≡ Some y → slice_get (xs ++ ys) (length xs + n) ≡ Some y
at_right xs ys n y at = at_place xs ys n (length xs + n) y refl at

pub at_either : {X : Type 0} (xs ys : List X) (n : ℕ) (z : X) → slice_get (xs ++ ys) n ≡ Some z
    → (slice_get xs n ≡ Some z) ⊎ ((k : ℕ) × (length xs + k ≡ n) × (slice_get ys k ≡ Some z))
at_either [] ys n z at = inr (n, omega arith, at)
at_either (x ∷ xs) ys zero z at = inl at
at_either (x ∷ xs) ys (suc n) z at =
    elim (at_either xs ys n z at) as (λ _. (slice_get xs n ≡ Some z) ⊎ ((k : ℕ) × (suc (length xs) + k ≡ suc n) × (slice_get ys k ≡ Some z))) [
      | inl left ↦ inl left
      | inr right ↦ inr (right.0, omega (arith, right.1), right.2)
    ]

-- what holds of each view, and of that of one element more behind them
pub each_pushed : {A B : Type 0} (P : ℕ → B → Type 0) (view : A → B) (xs : List A) (x : A) {n : ℕ} {all : List A} → all ≡ xs ++ x ∷ [] → length xs ≡ n
    → ((p : ℕ) (y : B) → slice_get (map view xs) p ≡ Some y → P p y) → P n (view x) → (p : ℕ) (y : B) → slice_get (map view all) p ≡ Some y → P p y
each_pushed {B = B} P view xs x pushed many each here p y at =
    elim (at_snoc (map view xs) (view x) p y (ap (λ l. slice_get l p) (sym (ap (map view) pushed ∙ map-append view xs (x ∷ []))) ∙ at)) as (λ _. P p y) [
      | inl h ↦ each p y h.0
      | inr h ↦ subst (λ (z : ℕ × B). P z.0 z.1) (λ k. (sym (h.0 ∙ length-map xs view ∙ many) k, h.1 k)) here
    ]

-- a sum over one list is that over another of the same length, place by place
pub same_sums : {X Y : Type 0} (g : X → ℕ) (h : Y → ℕ) (xs : List X) (ys : List Y) → length ys ≡ length xs
    → ((i : ℕ) (x : X) (y : Y) → slice_get xs i ≡ Some x → slice_get ys i ≡ Some y → g x ≡ h y) → sum_by g xs ≡ sum_by h ys
same_sums g h [] [] many same = refl
same_sums g h [] (y ∷ ys) many same = absurd (omega arith)
same_sums g h (x ∷ xs) [] many same = absurd (omega arith)
same_sums g h (x ∷ xs) (y ∷ ys) many same =
    omega (arith, sum_by-cons g x xs, sum_by-cons h y ys, same 0 x y refl refl, same_sums g h xs ys (omega arith) (λ i. same (suc i)))

-- new hands of fronts that follow each other in number
pub hands_both : (plan : Plan) (first second : ℕ) (xs ys : List (List LockedPart)) → AreNewHands plan 0 first xs → AreNewHands plan first second ys
    → AreNewHands plan 0 (first + second) (xs ++ ys)
hands_both plan first second xs ys left right = record {
  many = length-append xs ys ∙ omega (arith, left.many, right.many);
  each = λ f parts at.
      elim (at_either xs ys f parts at) as (λ _. AreNewParts plan (0 + f) parts) [
        | inl here ↦ left.each f parts here
        | inr there ↦ subst (λ n. AreNewParts plan n parts) (omega (arith, there.1, left.many)) (right.each there.0 parts there.2)
      ];
}
