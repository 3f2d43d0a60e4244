-- Filters of filters, and what else is done to a filtered list.
use Rattle.std.proofs.Common.{◌≡◌, List, [], ◌∷◌, Bool, true, false, cond, refl, sym, ap, ◌∙◌, length, ◌&&◌, arith}
use Rattle.std.specs.List.{find, filter, count_by, AllByRecursion as AllOf}
use Rattle.std.specs.Prelude.{map}
use Rattle.std.proofs.lemmas.List.Sums.{length-filter}
use Rattle.std.proofs.lemmas.Grind.{common_steps}
use Rattle.partition_model.specs.Cache.{Record}
use Rattle.partition_model.specs.CacheStep.{without_first}

module _ {X : Type 0} where
  pub filter_swap : (p q : X → Bool) (xs : List X) → filter p (filter q xs) ≡ filter q (filter p xs)
  filter_swap p q [] = refl
  filter_swap p q (x ∷ xs) = grind (arith, common_steps, filter_swap p q xs)

  -- a filter that lets pass whatever a later one does
  pub filter_weaker : (p q : X → Bool) → ((x : X) → q x ≡ true → p x ≡ true) → (xs : List X) → filter q (filter p xs) ≡ filter q xs
  filter_weaker p q lets [] = refl
  filter_weaker p q lets (x ∷ xs) = grind (arith, common_steps, filter_weaker p q lets xs)

  pub filter_all : (p : X → Bool) (xs : List X) → AllOf (λ x. p x ≡ true) xs → filter p xs ≡ xs
  filter_all p [] all = refl
  filter_all p (x ∷ xs) all = ap (λ b. cond b (x ∷ filter p xs) (filter p xs)) all.0 ∙ ap (λ l. x ∷ l) (filter_all p xs all.1)

  pub count_filtered : (p : X → Bool) (xs : List X) → count_by p (filter p xs) ≡ count_by p xs
  count_filtered p xs = sym (length-filter p (filter p xs)) ∙ ap length (filter_weaker p p (λ x yes. yes) xs) ∙ length-filter p xs

  pub filter_map_same : (q : X → Bool) (f : X → X) → ((x : X) → q (f x) ≡ q x) → (xs : List X) → filter q (map f xs) ≡ map f (filter q xs)
  filter_map_same q f same [] = refl
  filter_map_same q f same (x ∷ xs) = grind (arith, common_steps, filter_map_same q f same xs)

  -- a change of none of those that pass
  pub filter_map_none : (q : X → Bool) (f : X → X) → ((x : X) → q x ≡ true → f x ≡ x) → (xs : List X) → map f (filter q xs) ≡ filter q xs
  filter_map_none q f same [] = refl
  filter_map_none q f same (x ∷ xs) = grind (arith, common_steps, filter_map_none q f same xs)

  -- the first that passes two tests
  pub find_both : (p q : X → Bool) (xs : List X) → find (λ x. p x && q x) xs ≡ find p (filter q xs)
  find_both p q [] = refl
  find_both p q (x ∷ xs) = grind (arith, common_steps, find_both p q xs)

-- without the first that passes

pub first_filtered : (p : Record → Bool) (rs : List Record) → without_first p (filter p rs) ≡ filter p (without_first p rs)
first_filtered p [] = refl
first_filtered p (r ∷ rs) = grind (arith, common_steps, first_filtered p rs)

pub first_of_others : (p q : Record → Bool) → ((r : Record) → q r ≡ true → p r ≡ false) → (rs : List Record) → filter q (without_first p rs) ≡ filter q rs
first_of_others p q apart [] = refl
first_of_others p q apart (r ∷ rs) = grind (arith, common_steps, first_of_others p q apart rs)
