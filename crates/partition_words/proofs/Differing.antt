-- Numbers that all differ.
use Rattle.partition_words.proofs.Vocabulary.{AllPairs, Contains, Contains-append_cases, List, [], arith, get_or, get_or_default, inl, inr, length}
use Rattle.partition_words.proofs.Vocabulary.{suc, sym, ℕ, ◌++◌, ◌+◌, ◌<◌, ◌∙◌, ◌∷◌, ◌≡◌, ◌≢◌}
use Rattle.std.specs.Cmp.{nat_eq_equiv}
use Rattle.std.specs.List.Sorted.{IsPermutation}
use Rattle.std.proofs.Common.{eqb}
use Rattle.std.proofs.lemmas.Bool.Decides.{Decides-eqb}
use Rattle.std.proofs.lemmas.Grind.{common_steps}
use Rattle.std.proofs.lemmas.List.Kept.{AllPairs-cons}
use Rattle.std.proofs.lemmas.Map.Keys.{IsDistinct-IsPermutation}
use Rattle.std.proofs.lemmas.Map.Made.{AllPairs-from_IsDistinct, IsDistinct-from_AllPairs}
use Rattle.partition_words.proofs.Failing.{in_head, in_tail}

abbrev pub AllDiffer : List ℕ → Type 0
AllDiffer xs = AllPairs (λ c d. c ≢ d) xs

pub one_place : (xs : List ℕ) → AllDiffer xs → (i j : ℕ) → i < length xs → j < length xs → get_or xs i 0 ≡ get_or xs j 0 → i ≡ j
one_place xs pairs i j l m same = grind (arith, pairs i j 0, pairs j i 0)

pub differ_moved : (xs ys : List ℕ) → IsPermutation xs ys → AllDiffer xs → AllDiffer ys
differ_moved xs ys moved pairs =
    AllPairs-from_IsDistinct Decides-eqb ys (IsDistinct-IsPermutation eqb nat_eq_equiv.symm xs ys moved (IsDistinct-from_AllPairs Decides-eqb xs pairs))

pub differ_joined : (xs ys : List ℕ) → AllDiffer xs → AllDiffer ys → ((c : ℕ) → Contains xs c → ¬ (Contains ys c)) → AllDiffer (xs ++ ys)
differ_joined [] ys one two apart = two
differ_joined (x ∷ xs) ys one two apart = AllPairs-cons (λ c d. c ≢ d) x (xs ++ ys)
    (λ k d l is. elim (Contains-append_cases xs ys x (k, l, get_or_default (xs ++ ys) k x d l ∙ sym is)) [
      | inl i ↦ one 0 (suc i.0) x (omega arith) (omega (arith, i.1)) (sym i.2)
      | inr i ↦ apart x (in_head x xs) i
    ])
    (differ_joined xs ys (λ i j d less l. one (suc i) (suc j) d (omega arith) (omega arith)) two (λ c i. apart c (in_tail x c xs i)))

module _ (xs ys : List ℕ) where
  pub differ_first : AllDiffer (xs ++ ys) → AllDiffer xs
  differ_first pairs i j d less inside same = grind (arith, common_steps, pairs i j d)

  pub differ_last : AllDiffer (xs ++ ys) → AllDiffer ys
  differ_last pairs i j d less inside same = grind (arith, common_steps, pairs (length xs + i) (length xs + j) d)

  pub differ_apart : AllDiffer (xs ++ ys) → (c : ℕ) → Contains xs c → ¬ (Contains ys c)
  differ_apart pairs c one two = grind (arith, common_steps, pairs one.0 (length xs + two.0) c, one.1, one.2, two.1, two.2)
