-- What contracts see of a chained index.
use Rattle.std.specs.Prelude.{◌≡◌, ◌≢◌, ℕ, ◌<◌, ◌%◌, ◌↔◌, List, [], length, Contains, AllPairs}
use Rattle.mica_words.specs.declared.entry.TheConstants.{SLOTS}
use Rattle.partition_words.specs.declared.shape.Shape.{Shape}
use Rattle.partition_words.specs.declared.state.OwnerState.{OwnerState}
use Rattle.partition_words.specs.Shape.{IsMain}
use Rattle.partition_words.specs.OwnerState.{entry_in, link_in}
use Rattle.partition_words.specs.Chain.{IsDense, IsFreeSpare}
use Rattle.chained_index.specs.ChainEntries.{entries_of}

-- the shape of its words, and the spare buckets in no chain
pub record Index : Type 0 where
  pub shape : Shape
  pub free : List ℕ

-- a bucket with neither link nor entry
pub record IsBlank (o : OwnerState) (c : ℕ) : Type 0 where
  pub no_link : link_in o c ≡ 0
  pub no_entry : (slot : ℕ) → slot < SLOTS → entry_in o c slot ≡ 0

-- The index is one of these words: their chains are dense, and its free spares are the spares in no chain,
-- each once and each blank.
pub record IsIndexOf (index : Index) (o : OwnerState) : Type 0 where
  pub shape : index.shape ≡ o.shape
  pub dense : (b : ℕ) → IsMain o.shape b → IsDense o b
  pub free : (c : ℕ) → Contains index.free c ↔ IsFreeSpare o c
  pub once : AllPairs (λ c d. c ≢ d) index.free
  pub blank : (c : ℕ) → IsFreeSpare o c → IsBlank o c

-- the entries fill the buckets of the chain, and no spare bucket is left
pub record LacksPlace (index : Index) (o : OwnerState) (b : ℕ) : Type 0 where
  pub some : 0 < length (entries_of o b)
  pub full : length (entries_of o b) % SLOTS ≡ 0
  pub none_free : index.free ≡ []
