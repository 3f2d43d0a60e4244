-- The index of words as made: all spares are free.
use Rattle.chained_index.proofs.Words.{◌≡◌, ℕ, ◌+◌, List, length, refl, arith}
use Rattle.chained_index.proofs.Words.{OwnerState, link_in, InChain, IsIndexOf}
use Rattle.chained_index.proofs.Words.{◌-◌, ◌<◌, get_or, replicate}
use Rattle.chained_index.proofs.Words.{get_or_past, get_or_default, Shape, entry_at, link_at, common_steps, word_count, entry_in, as_made}

all_zero : (n i : ℕ) → get_or {A = ℕ} (replicate n 0) i 0 ≡ 0
all_zero n i = grind (arith, common_steps, get_or_past)

module _ (shape : Shape) where
  abbrev o : OwnerState
  o = as_made shape

  no_link : (c : ℕ) → link_in o c ≡ 0
  no_link c = all_zero (word_count shape) (link_at shape c)

  no_entry : (c slot : ℕ) → entry_in o c slot ≡ 0
  no_entry c slot = all_zero (word_count shape) (entry_at shape c slot)

  alone : (b c : ℕ) → InChain o b c → b ≡ c
  alone b c h = grind (arith, common_steps)

  -- all spares, the last one first, are the free ones
  module _ (free : List ℕ) (size : length free ≡ shape.spares) (at : (k : ℕ) → k < shape.spares → get_or free k 0 + k + 1 ≡ shape.buckets + shape.spares) where
    read : (k d : ℕ) → k < shape.spares → get_or free k d + k + 1 ≡ shape.buckets + shape.spares
    read k d less = omega (arith, get_or_default free k d 0 (omega arith), at k less)

    pub index_as_made : IsIndexOf (record { shape = shape; free = free }) o
    index_as_made = record {
      shape = refl;
      dense = λ b main. grind (arith, common_steps);
      free = λ c. (grind (arith, read, alone), grind (arith, read (shape.buckets + shape.spares - 1 - c) c));
      once = λ i j d less within same. let one = read i d (omega arith) in let two = read j d (omega arith) in omega arith;
      blank = λ c f. record { no_link = no_link c; no_entry = λ slot low. no_entry c slot };
    }
