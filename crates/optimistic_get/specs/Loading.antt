-- What loads in an open try make of a reader's state, and what they found.
use Rattle.std.specs.Prelude.{◌≡◌, ◌≢◌, ℕ, ◌+◌, ◌*◌, ◌<◌, ◌≤◌, List, [], length, slice_index, Option, Some, None}
use Rattle.mica_words.specs.declared.item.TheConstants.{MAX_STORED_LEN}
use Rattle.mica_words.specs.declared.entry.TheConstants.{SLOTS}
use Rattle.mica_words.specs.Hash.{hash_of}
use Rattle.mica_words.specs.Header.{header_key_len, header_value_len}
use Rattle.mica_words.specs.Item.{words_for, largest_stored_item}
use Rattle.mica_words.specs.Packing.{packed, unpacked}
use Rattle.partition_words.specs.declared.shape.Shape.{Shape}
use Rattle.partition_words.specs.declared.reader.Try.{Try}
use Rattle.partition_words.specs.declared.reader.ReaderState.{ReaderState}
use Rattle.partition_words.specs.Layout.{bucket_words, item_at}
use Rattle.partition_words.specs.Spelt.{Loads, HasLoad}

-- the loads of one try at most: two epochs and the stamp, and of each bucket of the chain the entries, the link
-- and an item behind each entry
abbrev pub most_loads : Shape → ℕ
most_loads shape = 3 + (shape.spares + 1) * (bucket_words + SLOTS * largest_stored_item)

-- the loads of the open try
abbrev pub loads_of : Option Try → Loads
loads_of None = []
loads_of (Some t) = t.loads

abbrev pub loads_in : ReaderState → Loads
loads_in r = loads_of r.current

-- it has what the other had
abbrev pub Keeps : Loads → Loads → Type 0
Keeps old new = (place x : ℕ) → HasLoad old place x → HasLoad new place x

-- a try goes on: it has at least the loads that it had
abbrev pub TryGoesOn : Option Try → Option Try → Type 0
TryGoesOn (Some t) (Some u) = (u ≡ record t { loads = u.loads }) × Keeps t.loads u.loads
TryGoesOn _ _ = ⊥

-- At most n loads more, of entries, links and item words, in the same try.
pub record GoesOn (old : ReaderState) (n : ℕ) (new : ReaderState) : Type 0 where
  pub same : new ≡ record old { loads = new.loads; current = new.current }
  pub most : new.loads ≤ old.loads + n
  pub least : old.loads ≤ new.loads
  pub current : TryGoesOn old.current new.current

-- these words were found from the offset on
abbrev pub HasLoadedWords : ReaderState → ℕ → List ℕ → Type 0
HasLoadedWords r p words = (i : ℕ) → i < length words
    → HasLoad (loads_in r) (item_at r.shape (p + i)) (slice_index words i)

-- one of these words was not
pub record LacksWord (r : ReaderState) (p : ℕ) (words : List ℕ) : Type 0 where
  pub at : ℕ
  pub inside : at < length words
  pub found : ℕ
  pub load : HasLoad (loads_in r) (item_at r.shape (p + at)) found
  pub other : found ≢ slice_index words at

-- the item at the offset is the key's, and its value has this length
pub record HasKeyOf (r : ReaderState) (p : ℕ) (key : List ℕ) (len : ℕ) : Type 0 where
  pub header : ℕ
  pub header_load : HasLoad (loads_in r) (item_at r.shape p) header
  pub key_len : header_key_len header ≡ length key
  pub value_len : header_value_len header ≡ len
  pub fits : len ≤ MAX_STORED_LEN
  pub hash : HasLoad (loads_in r) (item_at r.shape (p + 1)) (hash_of r.shape.hashing key)
  pub words : HasLoadedWords r (p + 2) (packed key)

-- the words from the offset on hold this value
pub record HoldsValue (r : ReaderState) (p len : ℕ) (value : List ℕ) : Type 0 where
  pub words : List ℕ
  pub enough : length words ≡ words_for len
  pub load : HasLoadedWords r p words
  pub held : value ≡ unpacked len words
  pub long : length value ≡ len
