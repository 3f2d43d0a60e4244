-- What batches and replies have in common: a header, and items one after another.
-- All numbers are little endian.
use Rattle.std.specs.Prelude.{◌≡◌, ◌<◌, ◌≤◌, ◌==◌, ◌||◌, ◌+◌, ℕ, zero, suc, Bool, not, List, [], ◌∷◌, ◌++◌, length, drop, slice_index, nat_eq, nat_lt, All, Option, if◌then◌else◌}
use Rattle.std.specs.Int.{w32, to_le_bytes}
use Rattle.std.specs.List.{flat_map, starts_with}
use Rattle.mica_words.specs.declared.item.TheConstants.{MAX_VALUE_LEN}
use Rattle.batch_packets.specs.declared.header.TheConstants.{HEADER_LEN, MAX_ITEMS, MAX_DATAGRAM_LEN_V1, MAX_DATAGRAM_LEN_V2, MAX_VALUE_LEN_V1}
use Rattle.batch_packets.specs.declared.fault.BatchFault.{BatchFault}
use Rattle.batch_packets.specs.declared.fault.BatchFault.TheVariants.{Short, Magic, Version, Count, Length, Op, Trailing}
use Rattle.batch_packets.specs.Faults.{first_of, or_later}

-- whether there is such a version
abbrev pub is_version : ℕ → Bool
is_version version = version == 1 || version == 2

-- how many bytes a datagram of a version may have
abbrev pub max_datagram_len : ℕ → ℕ
max_datagram_len version = if version == 1 then MAX_DATAGRAM_LEN_V1 else MAX_DATAGRAM_LEN_V2

-- how many bytes a value of a version may have: the second takes those that a trace may have
abbrev pub max_value_len : ℕ → ℕ
max_value_len version = if version == 1 then MAX_VALUE_LEN_V1 else MAX_VALUE_LEN

-- the bytes of a header: a magic, the version, how many items follow, and the batch's number
abbrev pub header_text : List ℕ → ℕ → ℕ → ℕ → List ℕ
header_text magic version count number = magic ++ version ∷ count ∷ to_le_bytes w32 number

-- a header and the texts of the items
abbrev pub datagram_text : {Item : Type 0} → List ℕ → (Item → List ℕ) → ℕ → ℕ → List Item → List ℕ
datagram_text magic text version number items =
    header_text magic version (length items) number ++ flat_map text items

-- the items fit one datagram of a version
pub record FitsDatagram {Item : Type 0} (text : Item → List ℕ) (version : ℕ) (items : List Item)
    : Type 0 where
  pub some : 0 < length items
  pub few : length items ≤ MAX_ITEMS
  pub short : HEADER_LEN + length (flat_map text items) ≤ max_datagram_len version

-- the bytes are the texts of these items of a version, one after another
pub record SpellsItems {Item : Type 0} (text : Item → List ℕ) (is_item : ℕ → Item → Type 0) (is_in_range : Item → Type 0)
    (version : ℕ) (bytes : List ℕ) (items : List Item) : Type 0 where
  pub texts : bytes ≡ flat_map text items
  pub each : All (is_item version) items
  pub in_range : All is_in_range items

-- What the two kinds of datagram differ in: the magic, and what the bytes of an item say of it. The
-- bytes of an item are those from its first one on.
pub record DatagramKind : Type 0 where
  pub magic : List ℕ
  -- the bytes before an item's texts
  pub fixed : ℕ
  -- whether a version has its operation or status
  pub is_known : ℕ → List ℕ → Bool
  -- whether a version allows the lengths of its texts
  pub is_allowed : ℕ → List ℕ → Bool
  -- the bytes of the whole item
  pub size : List ℕ → ℕ

-- the version in the bytes of a datagram
abbrev pub version_at : List ℕ → ℕ
version_at bytes = slice_index bytes 4

-- how many items it says that it has
abbrev pub count_at : List ℕ → ℕ
count_at bytes = slice_index bytes 5

-- the first fault of a header, in this order
abbrev pub header_fault : List ℕ → List ℕ → Option BatchFault
header_fault magic bytes = first_of
    ((nat_lt MAX_DATAGRAM_LEN_V2 (length bytes), Length)
    ∷ (nat_lt (length bytes) HEADER_LEN, Short)
    ∷ (not (starts_with nat_eq bytes magic), Magic)
    ∷ (not (is_version (version_at bytes)), Version)
    ∷ (nat_lt (max_datagram_len (version_at bytes)) (length bytes), Length)
    ∷ (count_at bytes == 0, Count)
    ∷ [])

-- the first fault of the item at the front, in this order
abbrev pub item_fault : DatagramKind → ℕ → List ℕ → Option BatchFault
item_fault kind version bytes = first_of
    ((nat_lt (length bytes) kind.fixed, Short)
    ∷ (not (kind.is_known version bytes), Op)
    ∷ (not (kind.is_allowed version bytes), Length)
    ∷ (nat_lt (length bytes) (kind.size bytes), Short)
    ∷ [])

-- the first fault of so many items, which nothing may follow
unfoldable pub items_fault : DatagramKind → ℕ → ℕ → List ℕ → Option BatchFault
items_fault kind version zero bytes = first_of ((nat_lt 0 (length bytes), Trailing) ∷ [])
items_fault kind version (suc count) bytes =
    or_later (item_fault kind version bytes)
    (items_fault kind version count (drop (kind.size bytes) bytes))

-- the first fault of a datagram
unfoldable pub first_fault : DatagramKind → List ℕ → Option BatchFault
first_fault kind bytes =
    or_later (header_fault kind.magic bytes)
    (items_fault kind (version_at bytes) (count_at bytes) (drop HEADER_LEN bytes))
