-- What a file of saved items keeps.
use Rattle.std.specs.Prelude.{◌≡◌, ℕ, ◌<◌, ◌≤◌, ◌-◌, ◌^◌, Bool, ◌+◌, ◌%◌, List, [], ◌∷◌, length, Option, Some, None, ⊤}
use Rattle.std.specs.List.{AllByRecursion}
use Rattle.mica_words.specs.declared.item.TheConstants.{MAX_STORED_LEN}
use Rattle.mica_words.specs.Item.{StoredFits}
use Rattle.saved_items.specs.declared.items.TheConstants.{MAX_SAVED_KEY_LEN, MAX_PARTITIONS}
use Rattle.saved_items.specs.declared.items.Head.{Head}
use Rattle.saved_items.specs.declared.items.Hashing.{Hashing}
use Rattle.saved_items.specs.declared.items.Hashing.TheVariants.{Papers, Secret}
use Rattle.saved_items.specs.declared.items.Closing.{Closing}
use Rattle.saved_items.specs.declared.items.Lengths.{Lengths}
use Rattle.saved_items.specs.declared.items.SavedPair.{SavedPair}

-- a pair without where it lies in memory
pub record Pair : Type 0 where
  pub key : List ℕ
  pub value : List ℕ
  pub reads : ℕ
  pub is_long : Bool

abbrev pub pair_of : SavedPair → Pair
pair_of pair = record { key = pair.key.items; value = pair.value.items; reads = pair.reads; is_long = pair.is_long }

-- Behind the head stand the pairs of each partition, one after another, and what closes it.
pub data Entry : Type 0 where
  Keeps : Pair → Entry
  Closes : Closing → Entry

pub record SavedItems : Type 0 where
  pub head : Head
  pub entries : List Entry

-- how many partitions are still to be closed, behind this entry
abbrev pub left_after : ℕ → Entry → ℕ
left_after n (Keeps pair) = n
left_after n (Closes closing) = n - 1

-- What closes the pairs of a partition behind this entry: 256 times how many they are. No pair begins so, since the lowest byte, where the length of its key stands, is 0.
abbrev pub close_after : ℕ → Entry → ℕ
close_after close (Keeps pair) = (close + 256) % 2 ^ 64
close_after close (Closes closing) = 0

-- So many partitions are closed, and nothing stands behind the last.
abbrev pub AreClosed : ℕ → List Entry → Type 0
AreClosed n [] = n ≡ 0
AreClosed n (entry ∷ entries) = (0 < n) × AreClosed (left_after n entry) entries

abbrev pub HashingFits : Hashing → Type 0
HashingFits Papers = ⊤
HashingFits (Secret k0 k1) = (k0 < 2 ^ 64) × (k1 < 2 ^ 64)

pub record HeadFits (head : Head) : Type 0 where
  pub second : head.second < 2 ^ 64
  pub hashing : HashingFits head.hashing
  pub some : 1 ≤ head.partitions
  pub partitions : head.partitions ≤ MAX_PARTITIONS

pub record ClosingFits (closing : Closing) : Type 0 where
  pub written : closing.written < 2 ^ 64
  pub some : 0 < closing.next
  pub next : closing.next < 2 ^ 62
  pub until : closing.until < 2 ^ 64

pub record PairFits (pair : Pair) : Type 0 where
  pub some : 0 < length pair.key
  pub key : length pair.key ≤ MAX_SAVED_KEY_LEN
  pub value : StoredFits pair.value
  pub reads : pair.reads < 4

pub record LengthsFit (lengths : Lengths) : Type 0 where
  pub some : 0 < lengths.key_len
  pub key : lengths.key_len ≤ MAX_SAVED_KEY_LEN
  pub value : lengths.value_len ≤ MAX_STORED_LEN
  pub reads : lengths.reads < 4

abbrev pub EntryFits : Entry → Type 0
EntryFits (Keeps pair) = PairFits pair
EntryFits (Closes closing) = ClosingFits closing

-- what has a file
pub record SavedFits (saved : SavedItems) : Type 0 where
  pub head : HeadFits saved.head
  pub entries : AllByRecursion EntryFits saved.entries
  pub closed : AreClosed saved.head.partitions saved.entries

-- a partition's closing, or the pair that was read
abbrev pub entry_of : Option Closing → Pair → Entry
entry_of None pair = Keeps pair
entry_of (Some closing) pair = Closes closing
