-- How many numbers of a range a list has.
use Rattle.partition_words.proofs.Vocabulary.{AllPairs, Contains, List, arith, eqb-true, length, range_with_len, ℕ, ◌+◌, ◌-◌, ◌<◌, ◌≡◌, ◌≢◌, ◌≤◌}
use Rattle.std.specs.Cmp.{nat_eq_equiv}
use Rattle.std.proofs.lemmas.Bool.Decides.{Decides-eqb}
use Rattle.std.proofs.lemmas.List.FromFn.{length-range_with_len, get_or-range_with_len}
use Rattle.std.proofs.lemmas.Map.Made.{IsDistinct-from_AllPairs, length-le_from_is_member}
use Rattle.std.proofs.lemmas.Map.Views.{list_any-from_Contains, Contains-from_any}

-- numbers that all differ are no more than a list that has them has
no_longer : (xs ys : List ℕ) → AllPairs (λ c d. c ≢ d) xs → ((c : ℕ) → Contains xs c → Contains ys c) → length xs ≤ length ys
no_longer xs ys pairs within = length-le_from_is_member nat_eq_equiv xs ys (IsDistinct-from_AllPairs Decides-eqb xs pairs)
    (λ q has. list_any-from_Contains nat_eq_equiv q ys (within q (Contains-from_any eqb-true q xs has)))

in_range : (low n c : ℕ) → low ≤ c → c < low + n → Contains (range_with_len low n) c
in_range low n c least most = (c - low, omega (arith, length-range_with_len low n), grind (arith, get_or-range_with_len low n (c - low) c))

module _ (xs : List ℕ) (low n : ℕ) (pairs : AllPairs (λ c d. c ≢ d) xs) (inside : (c : ℕ) → Contains xs c → (low ≤ c) × (c < low + n)) where
  pub at_most : length xs ≤ n
  at_most =
      let few = no_longer xs (range_with_len low n) pairs (λ c has. in_range low n c (inside c has).0 (inside c has).1) in
      omega (arith, length-range_with_len low n)

  -- as many where it has each number of the range
  pub all_there : ((c : ℕ) → low ≤ c → c < low + n → Contains xs c) → length xs ≡ n
  all_there all =
      let long = length-range_with_len low n in
      let least = no_longer (range_with_len low n) xs
      (λ i j d less within. grind (arith, long, get_or-range_with_len low n i d, get_or-range_with_len low n j d))
      (λ c has. let is = get_or-range_with_len low n has.0 c in all c (grind (arith, is, long, has.1, has.2)) (grind (arith, is, long, has.1, has.2))) in
      omega (arith, long, at_most)
