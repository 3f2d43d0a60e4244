-- Images, by cases on bytes. Numbers are little endian.
use Rattle.std.specs.Prelude.{◌≡◌, ◌+◌, ◌^◌, ◌<◌, ◌==◌, ◌&&◌, ◌||◌, ℕ, zero, suc, Bool, not, List, [], ◌∷◌, ◌++◌, length, take, drop, map, slice_index, nat_eq, nat_lt, nat_le, codes, Option, Some, None, if◌then◌else◌}
use Rattle.std.specs.Int.{w16, w32, to_le_bytes, from_le_bytes}
use Rattle.std.specs.List.{AllByRecursion, flat_map, list_all, starts_with}
use Rattle.std.specs.List.Sorted.{IsStrictlySortedBy}
use Rattle.std.specs.Ordering.{nat_cmp, is_lt}
use Rattle.std.specs.Cmp.Lexicographic.{slice_cmp}
use Rattle.mica_words.specs.declared.item.TheConstants.{MAX_VALUE_LEN}
use Rattle.mica_trace.specs.TraceGrammar.{IsKey, IsValue}
use Rattle.store_image.specs.declared.fault.ImageFault.{ImageFault}
use Rattle.store_image.specs.declared.fault.ImageFault.TheVariants.{Short, Magic, Version, Length, Order, Text, Trailing, NoMemory}
use Rattle.store_image.specs.declared.image.TheConstants.{MAGIC, VERSION}

-- Pairs

-- a key with its value
pub record Pair : Type 0 where
  pub key : List ℕ
  pub value : List ℕ

abbrev pub key_of : Pair → List ℕ
key_of pair = pair.key

-- key and value are those of a trace
abbrev pub IsPair : Pair → Type 0
IsPair pair = IsKey pair.key × IsValue pair.value

-- each key is above those before it, by their bytes
abbrev pub KeysRise : List Pair → Type 0
KeysRise pairs = IsStrictlySortedBy (slice_cmp nat_cmp) (map key_of pairs)

-- pairs with rising keys, no more than the header can count
pub record IsImage (pairs : List Pair) : Type 0 where
  pub each : AllByRecursion IsPair pairs
  pub rise : KeysRise pairs
  pub few : length pairs < 2 ^ 32

-- Their text

-- both lengths, the key and the value
unfoldable pub pair_text : Pair → List ℕ
pair_text pair = length pair.key ∷ to_le_bytes w16 (length pair.value) ++ pair.key ++ pair.value

-- the magic, the version, and how many pairs follow
abbrev pub header_text : ℕ → List ℕ
header_text count = MAGIC ++ VERSION ∷ to_le_bytes w32 count

-- the text of an image of these pairs
unfoldable pub image_text : List Pair → List ℕ
image_text pairs = header_text (length pairs) ++ flat_map pair_text pairs

-- the bytes are the text of the image of these pairs
pub record SpellsImage (bytes : List ℕ) (pairs : List Pair) : Type 0 where
  pub image : IsImage pairs
  pub text : bytes ≡ image_text pairs

-- What bytes say

-- what the bytes from a pair's first one on say of it
abbrev pub key_len_at : List ℕ → ℕ
key_len_at bytes = slice_index bytes 0

abbrev pub value_len_at : List ℕ → ℕ
value_len_at bytes = from_le_bytes w16 (drop 1 bytes)

abbrev pub pair_len_at : List ℕ → ℕ
pair_len_at bytes = 3 + key_len_at bytes + value_len_at bytes

abbrev pub key_at : List ℕ → List ℕ
key_at bytes = take (key_len_at bytes) (drop 3 bytes)

abbrev pub value_at : List ℕ → List ℕ
value_at bytes = take (value_len_at bytes) (drop (key_len_at bytes) (drop 3 bytes))

abbrev pub pair_at : List ℕ → Pair
pair_at bytes = record { key = key_at bytes; value = value_at bytes }

-- what follows it
abbrev pub after_pair : List ℕ → List ℕ
after_pair bytes = drop (pair_len_at bytes) bytes

-- the header has nine bytes
abbrev pub count_at : List ℕ → ℕ
count_at bytes = from_le_bytes w32 (drop 5 bytes)

-- The first fault

-- the fault of the first test that holds
abbrev pub first_of : List (Bool × ImageFault) → Option ImageFault
first_of [] = None
first_of (test ∷ tests) = if test.0 then Some test.1 else first_of tests

-- the earlier fault, else the later one
abbrev pub or_later : Option ImageFault → Option ImageFault → Option ImageFault
or_later None later = later
or_later (Some fault) later = Some fault

abbrev pub header_fault : List ℕ → Option ImageFault
header_fault bytes = first_of
    ((nat_lt (length bytes) 9, Short)
    ∷ (not (starts_with nat_eq bytes MAGIC), Magic)
    ∷ (not (slice_index bytes 4 == VERSION), Version)
    ∷ [])

abbrev pub are_between : ℕ → ℕ → List ℕ → Bool
are_between least most text = list_all (λ b. nat_le least b && nat_le b most) text

-- the key is above the one before it; before the first one stands no byte
abbrev pub is_above : List ℕ → List ℕ → Bool
is_above last key = is_lt (slice_cmp nat_cmp last key)

-- the first fault of the lengths of the pair at the front
abbrev pub lengths_fault : List ℕ → Option ImageFault
lengths_fault bytes = first_of
    ((nat_lt (length bytes) 3, Short)
    ∷ (key_len_at bytes == 0 || nat_lt MAX_VALUE_LEN (value_len_at bytes), Length)
    ∷ (nat_lt (length bytes) (pair_len_at bytes), Short)
    ∷ [])

-- and that of its texts, where it follows this key
abbrev pub texts_fault : List ℕ → Pair → Option ImageFault
texts_fault last pair = first_of
    ((not (are_between 33 126 pair.key && are_between 32 126 pair.value), Text)
    ∷ (not (is_above last pair.key), Order)
    ∷ [])

-- the first fault of the pair at the front, which follows this key
abbrev pub pair_fault : List ℕ → List ℕ → Option ImageFault
pair_fault last bytes = or_later (lengths_fault bytes) (texts_fault last (pair_at bytes))

-- the first fault of so many pairs, which nothing may follow
unfoldable pub pairs_fault : List ℕ → ℕ → List ℕ → Option ImageFault
pairs_fault last zero bytes = first_of ((nat_lt 0 (length bytes), Trailing) ∷ [])
pairs_fault last (suc count) bytes = or_later (pair_fault last bytes) (pairs_fault (key_at bytes) count (after_pair bytes))

-- the first fault of bytes
unfoldable pub first_fault : List ℕ → Option ImageFault
first_fault bytes = or_later (header_fault bytes) (pairs_fault [] (count_at bytes) (drop 9 bytes))

-- what is said of a fault
abbrev pub fault_name : ImageFault → List ℕ
fault_name Short = codes "short"
fault_name Magic = codes "magic"
fault_name Version = codes "version"
fault_name Length = codes "length"
fault_name Order = codes "order"
fault_name Text = codes "text"
fault_name Trailing = codes "trailing"
fault_name NoMemory = codes "out of memory"
