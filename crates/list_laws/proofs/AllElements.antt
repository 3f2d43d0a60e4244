-- What holds of all elements of a list.
use Rattle.std.proofs.Common.{◌≡◌, ℕ, zero, suc, ◌<◌, List, [], ◌∷◌, ◌++◌, length, Some, slice_get, slice_index_or, refl, subst, arith}
use Rattle.std.specs.List.{All, AllByRecursion, AllZip}
use Rattle.std.proofs.lemmas.List.Elements.{All-from_recursion, All-tail, recursion_from_All}

pub all_at : {X : Type 0} (P : X → Type 0) (xs : List X) (n : ℕ) (x : X) → AllByRecursion P xs → slice_get xs n ≡ Some x → P x
all_at P [] n x all at = absurd (cc)
all_at P (y ∷ xs) zero x all at = let same : y ≡ x = cc in subst P same all.0
all_at P (y ∷ xs) (suc n) x all at = all_at P xs n x all.1 at

-- what each place has, all have
pub all_places : {X : Type 0} (P : X → Type 0) (xs : List X) → ((n : ℕ) (x : X) → slice_get xs n ≡ Some x → P x) → AllByRecursion P xs
all_places P [] each = tt
all_places P (x ∷ xs) each = (each 0 x refl, all_places P xs (λ n. each (suc n)))

pub all_push : {X : Type 0} (P : X → Type 0) (xs : List X) (x : X) → AllByRecursion P xs → P x → AllByRecursion P (xs ++ x ∷ [])
all_push P [] x all here = (here, tt)
all_push P (y ∷ xs) x all here = (all.0, all_push P xs x all.1 here)

pub before_all : {X : Type 0} (P : X → Type 0) (xs ys : List X) → AllByRecursion P (xs ++ ys) → AllByRecursion P xs
before_all P [] ys all = tt
before_all P (x ∷ xs) ys all = (all.0, before_all P xs ys all.1)

pub All-before : {X : Type 0} (P : X → Type 0) (xs ys : List X) → All P (xs ++ ys) → All P xs
All-before P xs ys all = All-from_recursion P xs (before_all P xs ys (recursion_from_All P (xs ++ ys) all))

pub All-after : {X : Type 0} (P : X → Type 0) (xs : List X) (x : X) → All P (xs ++ x ∷ []) → P x
All-after P [] x all = (recursion_from_All P (x ∷ []) all).0
All-after P (y ∷ xs) x all = All-after P xs x (All-tail P y (xs ++ x ∷ []) all)

-- what holds at each place of two lists, read with any element for the places outside
pub all_zipped : {X : Type 0} (Q : X → X → Type 0) (xs ys : List X) → length ys ≡ length xs → ((n : ℕ) (d : X) → n < length xs → Q (slice_index_or xs n d) (slice_index_or ys n d)) → AllZip Q xs ys
all_zipped Q [] [] many each = tt
all_zipped Q [] (y ∷ ys) many each = absurd (omega arith)
all_zipped Q (x ∷ xs) [] many each = absurd (omega arith)
all_zipped Q (x ∷ xs) (y ∷ ys) many each = (each 0 x (omega arith), all_zipped Q xs ys (omega arith) (λ n d less. each (suc n) d (omega arith)))
