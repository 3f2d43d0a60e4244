-- Marks: keys that no client of connections can name.
use Rattle.std.specs.Prelude.{◌≡◌, ℕ, ◌*◌, ◌^◌, ◌<◌, ◌≤◌, ◌==◌, Bool, true, false, List, length, slice_index}
use Rattle.mica_words.specs.declared.hashing.Hashing.{Hashing}
use Rattle.mica_words.specs.declared.hashing.Hashing.TheVariants.{Fnv1a, SipHash}
use Rattle.mica_words.specs.declared.item.TheConstants.{MAX_KEY_LEN}

-- whether a key can be a mark
abbrev pub has_marks : Hashing → Bool
has_marks Fnv1a = false
has_marks (SipHash k0 k1) = true

-- a mark has the most bytes
abbrev pub is_mark : List ℕ → Bool
is_mark key = length key == MAX_KEY_LEN

-- its hash leads to bucket 0 of the partition that its first byte names
abbrev pub mark_hash : List ℕ → ℕ
mark_hash key = slice_index key 0 * 2 ^ 48
