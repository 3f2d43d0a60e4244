-- How far the stamps of a partition rise, by the longest key and value and by the wear; and how far the tail of a log.
use Rattle.std.specs.Prelude.{ℕ, ◌*◌, ◌-◌, ◌^◌, Bool, nat_le}
use Rattle.mica_words.specs.declared.entry.TheConstants.{OFFSET_BITS}
use Rattle.mica_words.specs.Item.{largest_stored_item, largest_item}
use Rattle.mica_words.specs.Stamp.{tail_of}
use Rattle.partition_model.specs.declared.options.TheConstants.{MAX_WEAR}

-- The most that a write adds to a stamp: in cache mode the words of its item, which stand above 16 bits of it.
abbrev pub most_added : ℕ
most_added = 65536 * largest_stored_item

-- a write whose item has a short value adds no more than this
abbrev pub most_short_added : ℕ
most_short_added = 65536 * largest_item

-- no stamp of options of the words of `mica` is greater, where values are short
abbrev pub most_stamp : ℕ
most_stamp = MAX_WEAR * most_short_added

-- From this tail on a log has no room for the largest item and the tail behind it.
abbrev pub last_tail : ℕ
last_tail = 2 ^ OFFSET_BITS - largest_stored_item

-- whether the log of this stamp has come to its end
abbrev pub is_at_end : ℕ → Bool
is_at_end stamp = nat_le last_tail (tail_of stamp)
