-- What a put and a removal make of the spares in use.
use Rattle.std.proofs.Common.{◌≡◌, ◌≢◌, ℕ, zero, suc, ◌+◌, ◌<◌, ◌≤◌, List, Some, None, refl, ap, ◌∙◌, arith, ◌⊎◌, inl, inr, ⊎_elim, rules}
use Rattle.std.specs.FinMap.{get, insert, remove, empty}
use Rattle.std.proofs.lemmas.Bool.{cases_order}
use Rattle.std.proofs.lemmas.Grind.{common_steps}
use Rattle.mica_words.specs.declared.hashing.Hashing.{Hashing}
use Rattle.mica_words.specs.Hash.{bucket_of}
unfoldable use Rattle.partition_model.specs.Store.{spares_below}
use Rattle.partition_model.specs.Store.{Cell, Cells, keys_in, spares_behind, spares_in_use}
use Rattle.partition_model.proofs.CellSums.{keys_over, no_keys}
use Rattle.partition_model.proofs.BucketSums.{new_here, new_others, less_others}

split_last : (b k : ℕ) → b < suc k → (b ≡ k) ⊎ (b < k)
split_last b k lt = ⊎_elim inl (⊎_elim inr (λ more. absurd (let past : k < b = more in omega arith))) (cases_order b k)

module _ (hashing : Hashing) (buckets bucket : ℕ) (m n : Cells) (others : (other : ℕ) → other ≢ bucket → keys_in hashing buckets other n ≡ keys_in hashing buckets other m) where
  pub same_spares : (k : ℕ) → k ≤ bucket → spares_below hashing buckets k n ≡ spares_below hashing buckets k m
  unfolding spares_below
  same_spares zero le = refl
  same_spares (suc k) le = search (rules, same_spares k (omega arith))

  pub spares_change : (k : ℕ) → bucket < k → spares_below hashing buckets k n + spares_behind (keys_in hashing buckets bucket m) ≡ spares_below hashing buckets k m + spares_behind (keys_in hashing buckets bucket n)
  unfolding spares_below
  spares_change zero lt = absurd (omega arith)
  spares_change (suc k) lt =
      ⊎_elim (λ same. let rest = same_spares k (omega arith) in
      let old = ap (λ b. spares_behind (keys_in hashing buckets b m)) same in
      let new = ap (λ b. spares_behind (keys_in hashing buckets b n)) same in
      omega arith)
      (λ apart. let rest = spares_change k (omega arith) in
      let here = ap spares_behind (others k (omega arith)) in
      omega arith)
      (split_last bucket k lt)

-- the spares behind a bucket are among all
pub spares_among : (hashing : Hashing) (buckets bucket : ℕ) (m : Cells) (k : ℕ) → bucket < k → spares_behind (keys_in hashing buckets bucket m) ≤ spares_below hashing buckets k m
unfolding spares_below
spares_among hashing buckets bucket m zero lt = absurd (omega arith)
spares_among hashing buckets bucket m (suc k) lt = grind (arith, common_steps, spares_among hashing buckets bucket m k)

pub no_spares : (hashing : Hashing) (buckets k : ℕ) → spares_below hashing buckets k empty ≡ 0
unfolding spares_below
no_spares hashing buckets zero = refl
no_spares hashing buckets (suc k) = grind (arith, common_steps, no_spares hashing buckets k, no_keys hashing buckets k)

-- a key of the bucket
module _ (hashing : Hashing) (buckets bucket : ℕ) (m : Cells) (key : List ℕ) (is : bucket ≡ bucket_of hashing key buckets) (within : bucket < buckets) where
  pub new_spares : (cell : Cell) → get m key ≡ None → spares_in_use hashing buckets (insert m key cell) + spares_behind (keys_in hashing buckets bucket m) ≡ spares_in_use hashing buckets m + spares_behind (keys_in hashing buckets bucket m + 1)
  new_spares cell new = spares_change hashing buckets bucket m (insert m key cell) (new_others hashing buckets bucket m key is within cell new) buckets within ∙ ap (λ k. spares_in_use hashing buckets m + spares_behind k) (new_here hashing buckets bucket m key is within cell new)

  pub less_spares : (old : Cell) → get m key ≡ Some old → spares_in_use hashing buckets (remove m key) + spares_behind (keys_in hashing buckets bucket m) ≡ spares_in_use hashing buckets m + spares_behind (keys_in hashing buckets bucket (remove m key))
  less_spares old had = spares_change hashing buckets bucket m (remove m key) (less_others hashing buckets bucket m key is within old had) buckets within

-- another cell for a key that has one
module _ (hashing : Hashing) (buckets : ℕ) (m : Cells) (key : List ℕ) (old cell : Cell) (had : get m key ≡ Some old) where
  pub over_spares : spares_in_use hashing buckets (insert m key cell) ≡ spares_in_use hashing buckets m
  over_spares = same_spares hashing buckets buckets m (insert m key cell) (λ other _. keys_over hashing buckets other m key old cell had) buckets (omega arith)
