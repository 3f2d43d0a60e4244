-- Which room an item keeps.
use Rattle.std.specs.Prelude.{◌≡◌, ℕ, ◌+◌, ◌*◌, ◌≤◌, Bool, ◌&&◌, nat_le}
use Rattle.mica_words.specs.Item.{largest_item}

-- Whether an item of so many words keeps the room that its key has: it fits, and the room has at most twice as many words and those of the
-- largest item of a trace more. So a key that once had a long value does not keep its room for ever.
abbrev pub keeps : ℕ → ℕ → Bool
keeps size room = nat_le size room && nat_le room (2 * size + largest_item)

-- a room of no more words than the largest item of a trace is kept by each item that fits
abbrev pub KeepsSmallRooms : Type 0
KeepsSmallRooms = (size room : ℕ) → room ≤ largest_item → keeps size room ≡ nat_le size room
