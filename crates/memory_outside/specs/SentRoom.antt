-- Replies that lie one after another in one room.
use Rattle.std.specs.Prelude.{ℕ, ◌≤◌, List, map, slice_range}
use Rattle.memory_outside.specs.declared.sent_room.Mark.{Mark}
use Rattle.outside.specs.Traffic.{Sent}

-- the replies, and how many bytes there is room for
pub record SentRoom : Type 0 where
  pub sent : List Sent
  pub room : ℕ

-- the reply that a mark tells
abbrev pub told_reply : List ℕ → Mark → Sent
told_reply bytes mark = record { bytes = slice_range bytes mark.from mark.to; after = mark.after }

abbrev pub sent_in : List ℕ → List Mark → List Sent
sent_in bytes marks = map (told_reply bytes) marks

-- the mark lies within so many bytes
abbrev pub IsWithin : ℕ → Mark → Type 0
IsWithin len mark = (mark.from ≤ mark.to) × (mark.to ≤ len)
