-- The first fault, as a walk over the pairs meets it.
use Rattle.std.proofs.lemmas.Grind.{common_steps}
use Rattle.std.proofs.Common.{◌≡◌, ℕ, suc, ◌+◌, ◌-◌, ◌<◌, ◌≤◌, List, length, drop, Some, None, refl, arith}
use Rattle.store_image.specs.declared.fault.ImageFault.TheVariants.{Trailing}
use Rattle.store_image.specs.ImageGrammar.{or_later, pair_fault, pairs_fault, key_at, after_pair}

module _ (last : List ℕ) (count i : ℕ) (rest : List ℕ) where
  -- the next pair's fault comes before those of the pairs after it
  pub next_fault : i < count → pairs_fault last (count - i) rest ≡ or_later (pair_fault last rest) (pairs_fault (key_at rest) (count - (i + 1)) (after_pair rest))
  unfolding pairs_fault
  next_fault less = let more : count - i ≡ suc (count - (i + 1)) = omega arith in rw more refl

  -- after the last pair more bytes are a fault
  pub trails : count ≤ i → ¬ (length rest ≡ 0) → pairs_fault last (count - i) rest ≡ Some Trailing
  unfolding pairs_fault
  trails end some = grind (arith, common_steps)

  pub is_done : count ≤ i → length rest ≡ 0 → pairs_fault last (count - i) rest ≡ None
  unfolding pairs_fault
  is_done end none = let left : count - i ≡ 0 = omega arith in rw (left, none) refl

-- what is left after a fixed part, a key and a value
pub after_two : (fixed : ℕ) (from : List ℕ) (key value size : ℕ) (after_key rest : List ℕ) → size ≡ fixed + key + value → after_key ≡ drop key (drop fixed from) → rest ≡ drop value after_key → drop size from ≡ rest
after_two fixed from key value size after_key rest is one two = grind (arith, common_steps)
