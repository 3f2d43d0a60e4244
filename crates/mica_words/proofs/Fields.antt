-- The numbers that a word is made of come back from it.
use Rattle.std.proofs.Common.{◌≡◌, ◌≢◌, ℕ, ◌^◌, ◌<◌, ◌≤◌, arith}
use Rattle.mica_words.specs.Entry.{entry_of, entry_tag, entry_offset}
use Rattle.mica_words.specs.declared.entry.TheConstants.{OFFSET_BITS}
use Rattle.mica_words.specs.Header.{header_of, header_room, header_key_len, header_value_len}

-- an entry

pub entry_tag-entry_of : (tag offset : ℕ) → offset < 2 ^ OFFSET_BITS → entry_tag (entry_of tag offset) ≡ tag
entry_tag-entry_of tag offset below = omega arith

pub entry_offset-entry_of : (tag offset : ℕ) → offset < 2 ^ OFFSET_BITS → entry_offset (entry_of tag offset) ≡ offset
entry_offset-entry_of tag offset below = omega arith

-- no entry is an empty slot
pub entry_not_empty : (tag offset : ℕ) → 1 ≤ tag → entry_of tag offset ≢ 0
entry_not_empty tag offset some = omega arith

-- a header

pub header_room-header_of : (room key_len value_len : ℕ) → room < 2 ^ 24 → key_len < 256 → header_room (header_of room key_len value_len) ≡ room
header_room-header_of room key_len value_len narrow short = omega arith

pub header_key_len-header_of : (room key_len value_len : ℕ) → room < 2 ^ 24 → key_len < 256 → header_key_len (header_of room key_len value_len) ≡ key_len
header_key_len-header_of room key_len value_len narrow short = omega arith

pub header_value_len-header_of : (room key_len value_len : ℕ) → room < 2 ^ 24 → key_len < 256 → header_value_len (header_of room key_len value_len) ≡ value_len
header_value_len-header_of room key_len value_len narrow short = omega arith

-- a stamp
