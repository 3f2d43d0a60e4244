-- The shape of a partition, and the options that its machine goes by.
use Rattle.std.specs.Prelude.{◌≡◌, ℕ, ◌+◌, ◌<◌, ◌≤◌, ◌^◌, Bool, ◌&&◌, nat_le}
use Rattle.std.specs.Int.{is_power_of_two}
use Rattle.partition_model.specs.declared.options.Mode.{Mode}
use Rattle.partition_model.specs.declared.options.Mode.TheVariants.{Cache, Store}
use Rattle.partition_model.specs.declared.options.Options.{Options}
use Rattle.partition_model.specs.declared.options.TheConstants.{MOST_SPARES, MOST_WORDS, MOST_WEAR}
use Rattle.partition_model.specs.Options.{IsPossible}
use Rattle.partition_words.specs.declared.shape.Shape.{Shape}

-- there are no spares in cache mode
abbrev pub spares_in : Mode → ℕ → ℕ
spares_in Cache spares = 0
spares_in Store spares = spares

-- the shape of a partition's table
abbrev pub shape_of : Options → Shape
shape_of options = record {
  mode = options.mode;
  buckets = options.buckets;
  spares = spares_in options.mode options.spares;
  words = options.words;
  wear = options.wear;
  hashing = options.hashing;
}

-- Options of this shape. The machine of a partition reads none of the other three.
abbrev pub options_of : Shape → Options
options_of shape = record {
  mode = shape.mode;
  partitions = 1;
  buckets = shape.buckets;
  spares = shape.spares;
  words = shape.words;
  readers = 1;
  tries = 1;
  wear = shape.wear;
  hashing = shape.hashing;
}

-- partitions can be made of this shape
pub record IsPossibleShape (shape : Shape) : Type 0 where
  pub ranges : IsPossible (options_of shape)
  pub no_spares : shape.mode ≡ Cache → shape.spares ≡ 0

-- whether partitions can be made of a shape, as a test
abbrev pub is_in_range : Shape → Bool
is_in_range shape =
    is_power_of_two shape.buckets && nat_le shape.buckets (2 ^ 24)
    && nat_le shape.spares (spares_in shape.mode MOST_SPARES)
    && nat_le 256 shape.words && nat_le shape.words MOST_WORDS
    && nat_le 1 shape.wear && nat_le shape.wear MOST_WEAR

-- main buckets have an epoch, and a key's bucket is one of them
abbrev pub IsMain : Shape → ℕ → Type 0
IsMain shape b = b < shape.buckets

-- the number of a spare bucket
abbrev pub IsSpare : Shape → ℕ → Type 0
IsSpare shape b = (shape.buckets ≤ b) × (b < shape.buckets + shape.spares)

-- a main bucket or a spare one
abbrev pub IsBucket : Shape → ℕ → Type 0
IsBucket shape b = b < shape.buckets + shape.spares
