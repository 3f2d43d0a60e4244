-- The pair of an item, as the words have it.
use Rattle.std.specs.Prelude.{ℕ, ◌+◌, ◌^◌, Bool, false, ◌&&◌, List, map, drop, nat_lt, nat_le}
use Rattle.mica_words.specs.declared.item.TheConstants.{MAX_STORED_LEN}
use Rattle.mica_words.specs.Header.{header_key_len, header_value_len}
use Rattle.mica_words.specs.Item.{words_for}
use Rattle.mica_words.specs.Packing.{unpacked}
use Rattle.partition_words.specs.declared.state.OwnerState.{OwnerState}
use Rattle.partition_words.specs.OwnerState.{item_in}
use Rattle.circular_log.specs.LogItem.{words_from}
use Rattle.saved_items.specs.Items.{Pair}

-- so many bytes, packed into the item words from the offset on
abbrev pub bytes_in : OwnerState → ℕ → ℕ → List ℕ
bytes_in o p len = unpacked len (words_from o p (words_for len))

-- the key and the value of the item at the offset
abbrev pub key_at : OwnerState → ℕ → List ℕ
key_at o p = bytes_in o (p + 2) (header_key_len (item_in o p))

abbrev pub value_at : OwnerState → ℕ → List ℕ
value_at o p = bytes_in o (p + 2 + words_for (header_key_len (item_in o p))) (header_value_len (item_in o p))

-- No count of reads is kept.
abbrev pub pair_at : OwnerState → ℕ → Pair
pair_at o p = record { key = key_at o p; value = value_at o p; reads = 0; is_long = false }

-- the pairs of these offsets from one on
abbrev pub pairs_from : OwnerState → ℕ → List ℕ → List Pair
pairs_from o at offsets = map (pair_at o) (drop at offsets)

-- Whether the lengths in the header at the offset are those of an item, and the offset is one.
abbrev pub is_item : OwnerState → ℕ → Bool
is_item o p = nat_lt p (2 ^ 48) && nat_lt 0 (header_key_len (item_in o p)) && nat_le (header_value_len (item_in o p)) MAX_STORED_LEN
