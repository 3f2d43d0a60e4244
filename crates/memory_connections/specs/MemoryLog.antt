-- What calls did, as it is kept in memory.
use Rattle.std.specs.Prelude.{ℕ, ◌≤◌, List, map, reverse, slice_range, ⊤}
use Rattle.memory_connections.specs.declared.memory_log.Note.{Note}
use Rattle.memory_connections.specs.declared.memory_log.Note.TheVariants.{Opened, Reported, TurnedAway, Met, Second, Received, Asked, Closed}
use Rattle.memory_connections.specs.declared.memory_log.Mark.{Mark}
use Rattle.memory_connections.specs.declared.memory_log.Mark.TheVariants.{Noted, Sent}
use Rattle.connections.specs.State.{Entry, opened, reported, turned_away, met, second, received, sent, asked, closed}

-- the entries, and for how many more there is room
pub record LogRoom : Type 0 where
  pub entries : List Entry
  pub room : ℕ

abbrev pub noted : Note → Entry
noted (Opened number) = opened number
noted (Reported number) = reported number
noted TurnedAway = turned_away
noted Met = met
noted (Second s) = second s
noted (Received c bytes) = received c bytes.now
noted (Asked c) = asked c
noted (Closed c) = closed c

abbrev pub entry_in : List ℕ → Mark → Entry
entry_in bytes (Noted note) = noted note
entry_in bytes (Sent c from to) = sent c (slice_range bytes from to)

-- the last of them first
abbrev pub entries_in : List ℕ → List Mark → List Entry
entries_in bytes marks = reverse (map (entry_in bytes) marks)

-- the mark lies within so many bytes
abbrev pub IsWithin : ℕ → Mark → Type 0
IsWithin len (Noted note) = ⊤
IsWithin len (Sent c from to) = (from ≤ to) × (to ≤ len)
