-- The list of a size never has a lower number than that of a smaller one.
use Rattle.std.proofs.Common.{◌≡◌, ℕ, ◌+◌, ◌-◌, ◌^◌, ◌<◌, ◌≤◌, ◌⊎◌, inl, inr, refl, arith}
use Rattle.std.proofs.lemmas.Bool.{cases_lt, le-ltb, lt-ltb}
use Rattle.size_classes.specs.Classes.{fine_class_of}
use Rattle.size_classes.proofs.Rising.{fine_rises}
use Rattle.block_heap.specs.Ranks.{rank_of}

rank_small : (words : ℕ) → words < 1088 → rank_of words ≡ words - 1
rank_small words small = rw (lt-ltb words 1088 small) refl

rank_large : (words : ℕ) → 1088 ≤ words → rank_of words ≡ 1087 + fine_class_of words
rank_large words large = rw (le-ltb words 1088 large) refl

pub rises : (a b : ℕ) → 1 ≤ a → a ≤ b → b < 2 ^ 32 → rank_of a ≤ rank_of b
rises a b some le limit = by (cases_lt a 1088) (cases_lt b 1088)
  where
    by : (a < 1088) ⊎ (1088 ≤ a) → (b < 1088) ⊎ (1088 ≤ b) → rank_of a ≤ rank_of b
    by (inl few) (inl fewer) = omega (arith, rank_small a few, rank_small b fewer)
    by (inl few) (inr more) = omega (arith, rank_small a few, rank_large b more)
    by (inr more) (inl few) = absurd (omega arith)
    by (inr more) (inr _) = (let rise = fine_rises a b (omega arith) le limit in omega (arith, rank_large a more, rank_large b (omega arith)))

pub few_ranks : (words : ℕ) → rank_of words < 1152
few_ranks words = by (cases_lt words 1088)
  where
    by : (words < 1088) ⊎ (1088 ≤ words) → rank_of words < 1152
    by (inl few) = omega (arith, rank_small words few)
    by (inr more) = omega (arith, rank_large words more)
