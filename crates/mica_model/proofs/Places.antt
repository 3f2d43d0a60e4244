-- The place of the first that passes a test, and what is there.
use Rattle.std.proofs.Common.{◌≡◌, ℕ, zero, suc, ◌≤◌, ◌<◌, List, [], ◌∷◌, length, get_or, Option, Some, None, Bool, true, false, cond, refl, sym, ap, ◌∙◌, arith, remove, ltb}
use Rattle.std.specs.List.{find, position, position_or_len, AllByRecursion as AllOf}
use Rattle.std.specs.Prelude.{is_some}
use Rattle.std.proofs.lemmas.List.Elements.{recursion_from_All}
use Rattle.std.proofs.lemmas.List.Quantifiers.{position-Some}
use Rattle.std.proofs.lemmas.List.Sums.{fails_before_first, prefix_len-le-length}
use Rattle.std.proofs.lemmas.Option.{none-some}
use Rattle.std.proofs.lemmas.Grind.{common_steps}
use Rattle.partition_model.specs.Cache.{Record}
use Rattle.partition_model.specs.CacheStep.{without_first}
use Rattle.partition_model.proofs.Found.{missed}

module _ {X : Type 0} (p : X → Bool) where
  found_first : (xs : List X) (i : ℕ) (d : X) → i < length xs → p (get_or xs i d) ≡ true → ((k : ℕ) → k < i → p (get_or xs k d) ≡ false) → find p xs ≡ Some (get_or xs i d)
  found_first [] i d within here before = absurd (omega arith)
  found_first (x ∷ xs) zero d within here before = ap (λ b. cond b (Some x) (find p xs)) here
  found_first (x ∷ xs) (suc i) d within here before =
      ap (λ b. cond b (Some x) (find p xs)) (before 0 (omega arith)) ∙ found_first xs i d (omega arith) here (λ k less. before (suc k) (omega arith))

  pub found_at : (xs : List X) (i : ℕ) → position p xs ≡ Some i → (d : X) → find p xs ≡ Some (get_or xs i d)
  found_at xs i at d = let first = position-Some p xs i d at in found_first xs i d first.0 first.1 first.2

  no_place : (a b : ℕ) → cond (ltb a b) (Some a) None ≡ None → b ≤ a
  no_place a b e = grind (arith, common_steps)

  pub fails_all : (xs : List X) → position p xs ≡ None → AllOf (λ x. p x ≡ false) xs
  fails_all xs at = grind (arith, common_steps, no_place (position_or_len p xs) (length xs) at, recursion_from_All, fails_before_first p xs)

  pub missed_all : (xs : List X) → position p xs ≡ None → find p xs ≡ None
  missed_all xs at = missed p xs (fails_all xs at)

  -- the place is the length of the front that does not pass, which is all where there is none
  place_by : (a b : ℕ) (i : ℕ) → cond (ltb a b) (Some a) None ≡ Some i → i ≡ a
  place_by a b i e = grind (arith, common_steps)

  pub front_of_place : (xs : List X) (i : ℕ) → position p xs ≡ Some i → i ≡ position_or_len p xs
  front_of_place xs i at = place_by (position_or_len p xs) (length xs) i at

  pub front_of_none : (xs : List X) → position p xs ≡ None → length xs ≡ position_or_len p xs
  front_of_none xs at = grind (arith, common_steps, no_place (position_or_len p xs) (length xs) at, prefix_len-le-length)

  is_some_by : (xs : List X) (o : Option ℕ) → position p xs ≡ o → is_some o ≡ is_some (find p xs)
  is_some_by [] None at = refl
  is_some_by [] (Some i) at = absurd (none-some i at)
  is_some_by (x ∷ xs) None at = ap is_some (sym (missed_all (x ∷ xs) at))
  is_some_by (x ∷ xs) (Some i) at = ap is_some (sym (found_at (x ∷ xs) i at x))

  pub is_some_position : (xs : List X) → is_some (position p xs) ≡ is_some (find p xs)
  is_some_position xs = is_some_by xs (position p xs) refl

module _ (p : Record → Bool) where
  removed_first : (xs : List Record) (i : ℕ) (d : Record) → i < length xs → p (get_or xs i d) ≡ true → ((k : ℕ) → k < i → p (get_or xs k d) ≡ false) → without_first p xs ≡ remove xs i
  removed_first [] i d within here before = absurd (omega arith)
  removed_first (x ∷ xs) zero d within here before = ap (λ b. cond b xs (x ∷ without_first p xs)) here
  removed_first (x ∷ xs) (suc i) d within here before =
      ap (λ b. cond b xs (x ∷ without_first p xs)) (before 0 (omega arith)) ∙ ap (λ ys. x ∷ ys) (removed_first xs i d (omega arith) here (λ k less. before (suc k) (omega arith)))

  pub removed_at : (xs : List Record) (i : ℕ) (d : Record) → position p xs ≡ Some i → without_first p xs ≡ remove xs i
  removed_at xs i d at = let first = position-Some p xs i d at in removed_first xs i d first.0 first.1 first.2

  none_removed : (xs : List Record) → AllOf (λ x. p x ≡ false) xs → without_first p xs ≡ xs
  none_removed [] none = refl
  none_removed (x ∷ xs) none = ap (λ b. cond b xs (x ∷ without_first p xs)) none.0 ∙ ap (λ ys. x ∷ ys) (none_removed xs none.1)

  pub kept_all : (xs : List Record) → position p xs ≡ None → without_first p xs ≡ xs
  kept_all xs at = none_removed xs (fails_all p xs at)
