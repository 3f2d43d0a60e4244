-- The ranges of the options.
use Rattle.std.specs.Prelude.{◌≡◌, ℕ, ◌≤◌, ◌^◌}
use Rattle.partition_model.specs.declared.options.Options.{Options}
use Rattle.partition_model.specs.declared.options.TheConstants.{MAX_WEAR, MOST_PARTITIONS, MOST_SPARES, MOST_WORDS, MOST_WEAR}

-- the number is neither below the least nor above the most
abbrev pub InRange : ℕ → ℕ → ℕ → Type 0
InRange least most n = (least ≤ n) × (n ≤ most)

-- a power of two, with this exponent at most
abbrev pub IsPowerUpTo : ℕ → ℕ → Type 0
IsPowerUpTo most n = (k : ℕ) × (k ≤ most) × (n ≡ 2 ^ k)

-- what the words of `mica` may ask for
pub record IsValid (options : Options) : Type 0 where
  pub partitions : InRange 1 16 options.partitions
  pub buckets : IsPowerUpTo 16 options.buckets
  pub spares : InRange 0 65536 options.spares
  pub words : InRange 256 1048576 options.words
  pub readers : InRange 1 16 options.readers
  pub tries : InRange 1 1000 options.tries
  pub wear : InRange 1 MAX_WEAR options.wear

-- what partitions can be made of, which is more
pub record IsPossible (options : Options) : Type 0 where
  pub partitions : InRange 1 MOST_PARTITIONS options.partitions
  pub buckets : IsPowerUpTo 24 options.buckets
  pub spares : InRange 0 MOST_SPARES options.spares
  pub words : InRange 256 MOST_WORDS options.words
  pub readers : InRange 1 16 options.readers
  pub tries : InRange 1 1000 options.tries
  pub wear : InRange 1 MOST_WEAR options.wear
