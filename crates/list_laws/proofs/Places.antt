-- What stands at the places of a list.
use Rattle.std.proofs.Common.{◌≡◌, ◌≢◌, ℕ, zero, suc, ◌+◌, ◌<◌, ◌≤◌, ◌⊎◌, inl, inr, List, [], ◌∷◌, ◌++◌, length, map, take, drop, Option, Some, slice_get, slice_set, refl, ap, ◌∙◌, arith, append_assoc}
use Rattle.std.specs.List.{filter_map}
use Rattle.std.specs.Prelude.{option_map}
use Rattle.std.proofs.lemmas.List.{length_push, take_all, take-append-drop, take-append-le}
use Rattle.std.proofs.lemmas.Option.{slice_get-map}
use Rattle.std.proofs.lemmas.Grind.{common_steps}

pub element_at : {X : Type 0} (xs : List X) (n : ℕ) → n < length xs → (x : X) × (slice_get xs n ≡ Some x)
element_at [] n less = absurd (omega arith)
element_at (x ∷ xs) zero less = (x, refl)
element_at (x ∷ xs) (suc n) less = element_at xs n (omega arith)

-- the first behind a front, and the last
pub at_seam : {X : Type 0} (xs : List X) (y : X) (ys : List X) → slice_get (xs ++ y ∷ ys) (length xs) ≡ Some y
at_seam [] y ys = refl
at_seam (x ∷ xs) y ys = at_seam xs y ys

pub at_last : {X : Type 0} (xs : List X) (y : X) → slice_get (xs ++ y ∷ []) (length xs) ≡ Some y
at_last xs y = at_seam xs y []

-- where the last of a beginning was taken off
pub popped : {X : Type 0} (all now new : List X) (x : X) → now ≡ take (length now) all → now ≡ new ++ x ∷ [] → (new ≡ take (length new) all) × (slice_get all (length new) ≡ Some x) × (length now ≡ length new + 1)
popped all now new x front is =
    grind (
      arith,
      common_steps,
      length_push new x,
      append_assoc new (x ∷ []) (drop (length now) all),
      take-append-drop (length now) all,
      take-append-le (length new) new (x ∷ drop (length now) all) (omega arith),
      take_all (length new) new (omega arith),
      at_seam new x (drop (length now) all),
    )

-- what a map has at a place is of the element there
pub at_map : {X Y : Type 0} (f : X → Y) (xs : List X) (n : ℕ) (x : X) → slice_get xs n ≡ Some x → slice_get (map f xs) n ≡ Some (f x)
at_map f xs n x at = slice_get-map f xs n ∙ ap (option_map f) at

pub from_map : {X Y : Type 0} (f : X → Y) (xs : List X) (n : ℕ) (y : Y) → slice_get (map f xs) n ≡ Some y → (x : X) × (slice_get xs n ≡ Some x) × (f x ≡ y)
from_map f [] n y at = absurd (cc)
from_map f (x ∷ xs) zero y at = (x, refl, cc)
from_map f (x ∷ xs) (suc n) y at = from_map f xs n y at

pub length-filter_map-le : {X Y : Type 0} (h : X → Option Y) (xs : List X) → length (filter_map h xs) ≤ length xs
length-filter_map-le h [] = omega arith
length-filter_map-le h (x ∷ xs) = grind (arith, common_steps, length-filter_map-le h xs)

-- One element set

-- what stands where one was set
pub set_cases : {X : Type 0} (xs : List X) (p : ℕ) (x : X) (q : ℕ) (y : X) → slice_get (slice_set xs p x) q ≡ Some y → ((p ≡ q) × (x ≡ y)) ⊎ ((p ≢ q) × (slice_get xs q ≡ Some y))
set_cases [] p x q y is = absurd (cc)
set_cases (z ∷ xs) zero x zero y is = inl (refl, cc)
set_cases (z ∷ xs) zero x (suc q) y is = inr ((λ same. omega arith), is)
set_cases (z ∷ xs) (suc p) x zero y is = inr ((λ same. omega arith), is)
set_cases (z ∷ xs) (suc p) x (suc q) y is = grind (arith, common_steps, set_cases xs p x q y is)

pub set_here : {X : Type 0} (xs : List X) (k : ℕ) (x y : X) → slice_get xs k ≡ Some x → slice_get (slice_set xs k y) k ≡ Some y
set_here [] k x y at = absurd (cc)
set_here (z ∷ xs) zero x y at = refl
set_here (z ∷ xs) (suc k) x y at = set_here xs k x y at

pub set_elsewhere : {X : Type 0} (xs : List X) (k i : ℕ) (y : X) → i ≢ k → slice_get (slice_set xs k y) i ≡ slice_get xs i
set_elsewhere [] k i y other = refl
set_elsewhere (z ∷ xs) zero zero y other = absurd (other refl)
set_elsewhere (z ∷ xs) zero (suc i) y other = refl
set_elsewhere (z ∷ xs) (suc k) zero y other = refl
set_elsewhere (z ∷ xs) (suc k) (suc i) y other = set_elsewhere xs k i y (λ same. other (ap suc same))

-- the element that stands there already
pub set_same : {X : Type 0} (xs : List X) (k : ℕ) (x : X) → slice_get xs k ≡ Some x → slice_set xs k x ≡ xs
set_same [] k x is = refl
set_same (y ∷ xs) zero x is = cc
set_same (y ∷ xs) (suc k) x is = ap (λ l. y ∷ l) (set_same xs k x is)
