-- The parts of a file of saved items, one for each partition.
use Rattle.std.specs.Prelude.{List, [], ◌∷◌, ◌++◌}
use Rattle.saved_items.specs.declared.items.Closing.{Closing}
use Rattle.saved_items.specs.Items.{Pair, Entry, Keeps, Closes}

-- the pairs of a partition, and what closes it
pub record Part : Type 0 where
  pub pairs : List Pair
  pub closing : Closing

-- the entries of a part
abbrev pub entries_of : List Pair → Closing → List Entry
entries_of [] closing = Closes closing ∷ []
entries_of (pair ∷ pairs) closing = Keeps pair ∷ entries_of pairs closing

-- those of all parts, one after another
abbrev pub entries_in : List Part → List Entry
entries_in [] = []
entries_in (part ∷ parts) = entries_of part.pairs part.closing ++ entries_in parts

-- a pair that stands before those of the first part
abbrev pub with_pair : Pair → List Part → List Part
with_pair pair [] = []
with_pair pair (part ∷ parts) = record { pairs = pair ∷ part.pairs; closing = part.closing } ∷ parts

-- the parts of these entries
abbrev pub parts_of : List Entry → List Part
parts_of [] = []
parts_of (Keeps pair ∷ entries) = with_pair pair (parts_of entries)
parts_of (Closes closing ∷ entries) = record { pairs = []; closing = closing } ∷ parts_of entries
