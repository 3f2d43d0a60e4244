-- What partitions answer to keys.
use Rattle.std.specs.Prelude.{ℕ, List, slice_get, Option, Some, None, option_and_then}
use Rattle.mica_words.specs.declared.hashing.Hashing.{Hashing}
use Rattle.mica_words.specs.Hash.{partition_of}
use Rattle.partition_model.specs.History.{answer_of}
use Rattle.partition_words.specs.declared.state.OwnerState.{OwnerState}
use Rattle.partition_words.specs.OwnerState.{options_in}

abbrev pub answer_in : List ℕ → OwnerState → Option (List ℕ)
answer_in key owner = answer_of (options_in owner) owner.history key

-- the value that a key has in its partition, of so many, where keys are hashed so
abbrev pub value_at : List OwnerState → Hashing → ℕ → List ℕ → Option (List ℕ)
value_at owners hashing partitions key = option_and_then (answer_in key) (slice_get owners (partition_of hashing key partitions))
