-- What a put and a removal make of how many keys each bucket has.
use Rattle.std.proofs.Common.{◌≡◌, ◌≢◌, ℕ, ◌+◌, ◌<◌, List, Some, None, sym, ap, ◌∙◌, arith, cond, eq-eqb}
use Rattle.std.specs.Prelude.{nat_eq}
use Rattle.std.specs.FinMap.{get, insert, remove}
use Rattle.std.proofs.lemmas.Grind.{common_steps}
use Rattle.mica_words.specs.Hash.{bucket_of}
use Rattle.mica_words.specs.declared.hashing.Hashing.{Hashing}
use Rattle.partition_model.specs.Store.{Cell, Cells, keys_in}
use Rattle.partition_model.proofs.CellSums.{keys_new, keys_less}

own : (bucket here : ℕ) → bucket ≡ here → cond {A = ℕ} (nat_eq here bucket) 1 0 ≡ 1
own bucket here is = ap (λ b. cond {A = ℕ} b 1 0) (eq-eqb here bucket (sym is))

other_one : (bucket here other : ℕ) → bucket ≡ here → other ≢ bucket → cond {A = ℕ} (nat_eq here other) 1 0 ≡ 0
other_one bucket here other is apart = grind (arith, common_steps)

-- a key of the bucket
module _ (hashing : Hashing) (buckets bucket : ℕ) (m : Cells) (key : List ℕ) (is : bucket ≡ bucket_of hashing key buckets) (within : bucket < buckets) where
  -- a new key
  module _ (cell : Cell) (new : get m key ≡ None) where
    pub new_here : keys_in hashing buckets bucket (insert m key cell) ≡ keys_in hashing buckets bucket m + 1
    new_here = keys_new hashing buckets bucket m key cell new ∙ ap (λ n. keys_in hashing buckets bucket m + n) (own bucket _ is)

    pub new_others : (other : ℕ) → other ≢ bucket → keys_in hashing buckets other (insert m key cell) ≡ keys_in hashing buckets other m
    new_others other apart = grind (arith, common_steps, keys_new hashing buckets other m key cell new, other_one bucket _ other is apart)

  -- a key that had a cell
  module _ (old : Cell) (had : get m key ≡ Some old) where
    pub less_here : keys_in hashing buckets bucket m ≡ keys_in hashing buckets bucket (remove m key) + 1
    less_here = keys_less hashing buckets bucket m key old had ∙ ap (λ n. keys_in hashing buckets bucket (remove m key) + n) (own bucket _ is)

    pub less_others : (other : ℕ) → other ≢ bucket → keys_in hashing buckets other (remove m key) ≡ keys_in hashing buckets other m
    less_others other apart = grind (arith, common_steps, keys_less hashing buckets other m key old had, other_one bucket _ other is apart)
