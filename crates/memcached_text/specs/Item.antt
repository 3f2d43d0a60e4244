-- What is stored of an item.
use Rattle.std.specs.Prelude.{◌≡◌, ℕ, ◌+◌, ◌%◌, ◌^◌, ◌<◌, false, List, ◌++◌, length, drop, nat_lt, nat_le, if◌then◌else◌}
use Rattle.std.specs.Int.{w32, w64, to_le_bytes, from_le_bytes}
use Rattle.memcached_text.specs.declared.limits.TheConstants.{HEADER_LEN}
use Rattle.memcached_text.specs.declared.item.Item.{Item}

-- the unique number of an item, in 62 bits, with its two marks in those above
abbrev pub marked : Item → ℕ
marked item = item.unique % 2 ^ 62 + (if item.stale then 2 ^ 62 else 0) + (if item.won then 2 ^ 63 else 0)

-- the flags, the second from which on the item is not there, its unique number with its marks, little endian, and then its value
unfoldable pub item_text : Item → List ℕ
item_text item = to_le_bytes w32 item.flags ++ to_le_bytes w32 item.expires ++ to_le_bytes w64 (marked item) ++ item.value

-- the item of these numbers, of which the last has the marks
abbrev pub item_of : ℕ → ℕ → ℕ → List ℕ → Item
item_of flags expires word value = record {
  flags = flags;
  expires = expires;
  unique = word % 2 ^ 62;
  stale = nat_le (2 ^ 62) (word % 2 ^ 63);
  won = nat_le (2 ^ 63) word;
  value = value;
}

-- the item of what is stored; one without room for a header is a value alone, that is kept for ever, has no number and no mark
unfoldable pub item_in : List ℕ → Item
item_in stored =
    if nat_lt (length stored) HEADER_LEN then record { flags = 0; expires = 0; unique = 0; stale = false; won = false; value = stored }
    else item_of (from_le_bytes w32 stored) (from_le_bytes w32 (drop 4 stored)) (from_le_bytes w64 (drop 8 stored)) (drop HEADER_LEN stored)

-- an item whose numbers are of so many bits
pub record IsItem (item : Item) : Type 0 where
  pub flags : item.flags < 2 ^ 32
  pub expires : item.expires < 2 ^ 32
  pub unique : item.unique < 2 ^ 62

-- what is stored of an item is read as it, with its marks
abbrev pub IsOneItem : Type 0
IsOneItem = (item : Item) → IsItem item → item_in (item_text item) ≡ item
