-- Where a dense chain ends.
use Rattle.std.specs.Prelude.{◌≡◌, ℕ, suc, ◌+◌, ◌*◌, ◌≤◌, length, slice_index}
use Rattle.mica_words.specs.declared.entry.TheConstants.{SLOTS}
use Rattle.partition_words.specs.declared.state.OwnerState.{OwnerState}
use Rattle.chained_index.specs.declared.index.ChainEnd.{ChainEnd}
use Rattle.chained_index.specs.ChainEntries.{buckets_of, entries_of}

-- the bucket at this place of a chain, the main one first
abbrev pub bucket_at : OwnerState → ℕ → ℕ → ℕ
bucket_at o k b = slice_index (buckets_of o b) k

-- The chain's last bucket is d, and c the one before it where there is one.
pub record EndsIn (o : OwnerState) (b c d : ℕ) : Type 0 where
  pub last : (k : ℕ) → length (buckets_of o b) ≡ suc k → bucket_at o k b ≡ d
  pub before : (k : ℕ) → length (buckets_of o b) ≡ suc (suc k) → bucket_at o k b ≡ c

-- The chain ends here: the last bucket has what entries the buckets before it have no slots for.
pub record EndsAt (o : OwnerState) (b : ℕ) (end : ChainEnd) : Type 0 where
  pub buckets : EndsIn o b end.before end.bucket
  pub within : end.used ≤ SLOTS
  pub used : length (entries_of o b) + SLOTS ≡ SLOTS * length (buckets_of o b) + end.used
