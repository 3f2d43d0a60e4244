-- What a search finds in a list, and what it finds once parts of the list are gone.
use Rattle.std.proofs.Common.{◌≡◌, ◌+◌, ◌≤◌, ◌<◌, List, [], ◌∷◌, ◌++◌, Some, None, Bool, true, false, cond, refl, sym, ap, ◌∙◌, arith}
use Rattle.std.specs.List.{find, filter, AllByRecursion as AllOf, count_by}
use Rattle.std.specs.Prelude.{map}
use Rattle.std.proofs.lemmas.List.Sums.{sum_by-cons}
use Rattle.std.proofs.lemmas.Grind.{common_steps}
use Rattle.partition_model.specs.Cache.{Record}
use Rattle.partition_model.specs.CacheStep.{without_first}

module _ {X : Type 0} where
  pub found_has : (P : X → Type 0) (p : X → Bool) (xs : List X) (x : X) → AllOf P xs → find p xs ≡ Some x → P x
  found_has P p [] x all is = cc
  found_has P p (y ∷ xs) x all is = grind (arith, common_steps, found_has P p xs x all.1)

  pub found_passes : (p : X → Bool) (xs : List X) (x : X) → find p xs ≡ Some x → p x ≡ true
  found_passes p [] x is = cc
  found_passes p (y ∷ xs) x is = grind (arith, common_steps, found_passes p xs x)

  -- nothing is found where each that passes the search fails in the list
  pub missed : (p : X → Bool) (xs : List X) → AllOf (λ x. p x ≡ false) xs → find p xs ≡ None
  missed p [] all = refl
  missed p (x ∷ xs) all = ap (λ b. cond b (Some x) (find p xs)) all.0 ∙ missed p xs all.1

  pub missed_all : (p : X → Bool) (xs : List X) → find p xs ≡ None → AllOf (λ x. p x ≡ false) xs
  missed_all p [] is = tt
  missed_all p (x ∷ xs) is = grind (arith, common_steps, missed_all p xs)

  -- a filter that keeps all that the search could find
  pub found_filter_all : (p q : X → Bool) → ((x : X) → p x ≡ true → q x ≡ true) → (xs : List X) → find p (filter q xs) ≡ find p xs
  found_filter_all p q keeps [] = refl
  found_filter_all p q keeps (x ∷ xs) = grind (arith, common_steps, found_filter_all p q keeps xs)

  -- what was found is still found where the filter keeps it
  pub found_filter : (p q : X → Bool) (xs : List X) (x : X) → find p xs ≡ Some x → q x ≡ true → find p (filter q xs) ≡ Some x
  found_filter p q [] x is keeps = is
  found_filter p q (y ∷ xs) x is keeps = grind (arith, common_steps, found_filter p q xs x)

  pub missed_filter : (p q : X → Bool) (xs : List X) → find p xs ≡ None → find p (filter q xs) ≡ None
  missed_filter p q [] is = refl
  missed_filter p q (x ∷ xs) is = grind (arith, common_steps, missed_filter p q xs)

  -- a search that finds nothing of the first list goes on in the second
  pub found_append_none : (p : X → Bool) (xs ys : List X) → find p xs ≡ None → find p (xs ++ ys) ≡ find p ys
  found_append_none p [] ys is = refl
  found_append_none p (x ∷ xs) ys is = grind (arith, common_steps, found_append_none p xs ys)

  pub found_push_other : (p : X → Bool) (xs : List X) (y : X) → p y ≡ false → find p (xs ++ y ∷ []) ≡ find p xs
  found_push_other p [] y other = ap (λ b. cond b (Some y) None) other
  found_push_other p (x ∷ xs) y other = ap (cond (p x) (Some x)) (found_push_other p xs y other)

  -- all of a list that is made of others

  pub all_filter : (P : X → Type 0) (q : X → Bool) (xs : List X) → AllOf P xs → AllOf P (filter q xs)
  all_filter P q [] all = tt
  all_filter P q (x ∷ xs) all = grind (arith, common_steps, all_filter P q xs all.1)

  pub all_passes : (q : X → Bool) (xs : List X) → AllOf (λ x. q x ≡ true) (filter q xs)
  all_passes q [] = tt
  all_passes q (x ∷ xs) = grind (arith, common_steps, all_passes q xs)

  pub all_push : (P : X → Type 0) (xs : List X) (y : X) → AllOf P xs → P y → AllOf P (xs ++ y ∷ [])
  all_push P xs y all here = grind (arith, common_steps)

  pub all_weaker : (P Q : X → Type 0) → ((x : X) → P x → Q x) → (xs : List X) → AllOf P xs → AllOf Q xs
  all_weaker P Q gives [] all = tt
  all_weaker P Q gives (x ∷ xs) all = (gives x all.0, all_weaker P Q gives xs all.1)

  pub all_map : (P : X → Type 0) (f : X → X) (xs : List X) → ((x : X) → P x → P (f x)) → AllOf P xs → AllOf P (map f xs)
  all_map P f [] keeps all = tt
  all_map P f (x ∷ xs) keeps all = (keeps x all.0, all_map P f xs keeps all.1)

  -- how many pass a test

  pub count_cons : (p : X → Bool) (x : X) (xs : List X) → count_by p (x ∷ xs) ≡ cond (p x) 1 0 + count_by p xs
  count_cons p x xs = sum_by-cons (λ y. cond (p y) 1 0) x xs

  pub count_filter : (p q : X → Bool) (xs : List X) → count_by p (filter q xs) ≤ count_by p xs
  count_filter p q [] = omega arith
  count_filter p q (x ∷ xs) = grind (arith, common_steps, count_filter p q xs)

-- once the first that passes a test is gone

-- without the first that passes another test, where none that the search could find passes it
pub found_without_first : (p here : Record → Bool) → ((x : Record) → p x ≡ true → here x ≡ false) → (xs : List Record) → find p (without_first here xs) ≡ find p xs
found_without_first p here apart [] = refl
found_without_first p here apart (x ∷ xs) = grind (arith, common_steps, found_without_first p here apart xs)

pub missed_without_first : (p here : Record → Bool) (xs : List Record) → find p xs ≡ None → find p (without_first here xs) ≡ None
missed_without_first p here [] is = refl
missed_without_first p here (x ∷ xs) is = grind (arith, common_steps, missed_without_first p here xs)

pub all_without_first : (P : Record → Type 0) (here : Record → Bool) (xs : List Record) → AllOf P xs → AllOf P (without_first here xs)
all_without_first P here [] all = tt
all_without_first P here (x ∷ xs) all = grind (arith, common_steps, all_without_first P here xs all.1)

-- the count falls by one, where some pass
pub count_without_first : (here : Record → Bool) (xs : List Record) → 0 < count_by here xs → count_by here (without_first here xs) + 1 ≡ count_by here xs
count_without_first here [] some = absurd (omega arith)
count_without_first here (x ∷ xs) some = grind (arith, count_cons here x xs, count_without_first here xs)

pub count_without_first_le : (p here : Record → Bool) (xs : List Record) → count_by p (without_first here xs) ≤ count_by p xs
count_without_first_le p here [] = omega arith
count_without_first_le p here (x ∷ xs) = grind (arith, common_steps, count_without_first_le p here xs)

-- the first that passes is not the last, where another passes before it
pub without_first_push : (here : Record → Bool) (xs : List Record) (y : Record) → 0 < count_by here xs → without_first here (xs ++ y ∷ []) ≡ without_first here xs ++ y ∷ []
without_first_push here [] y some = absurd (omega arith)
without_first_push here (x ∷ xs) y some =
    let whole = count_cons here x xs in
    elim (here x) as (λ b. cond b 1 0 + count_by here xs ≡ count_by here (x ∷ xs)
    → cond b (xs ++ y ∷ []) (x ∷ without_first here (xs ++ y ∷ [])) ≡ cond b xs (x ∷ without_first here xs) ++ y ∷ []) [
      | true ↦ λ w. refl
      | false ↦ λ w. ap (λ zs. x ∷ zs) (without_first_push here xs y (omega arith))
    ] (sym whole)
