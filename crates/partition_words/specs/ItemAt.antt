-- What the words at an offset tell of a key.
use Rattle.std.specs.Prelude.{◌≡◌, ℕ, ◌+◌, ◌<◌, List, length, slice_index}
use Rattle.mica_words.specs.Hash.{hash_of}
use Rattle.mica_words.specs.Header.{header_key_len}
use Rattle.mica_words.specs.Item.{words_for}
use Rattle.mica_words.specs.Packing.{packed}
use Rattle.partition_words.specs.declared.state.OwnerState.{OwnerState}
use Rattle.partition_words.specs.OwnerState.{item_in}

-- the words at the offset have the key's length, its hash and its words
pub record HasKey (o : OwnerState) (p : ℕ) (key : List ℕ) : Type 0 where
  pub len : header_key_len (item_in o p) ≡ length key
  pub hash : item_in o (p + 1) ≡ hash_of o.shape.hashing key
  pub words : (i : ℕ) → i < words_for (length key)
      → item_in o (p + 2 + i) ≡ slice_index (packed key) i

-- its hash and its words, whatever its length in the header
pub record HasKeyWords (o : OwnerState) (p : ℕ) (key : List ℕ) : Type 0 where
  pub hash : item_in o (p + 1) ≡ hash_of o.shape.hashing key
  pub words : (i : ℕ) → i < words_for (length key)
      → item_in o (p + 2 + i) ≡ slice_index (packed key) i
