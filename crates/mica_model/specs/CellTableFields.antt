-- What the fields of a table of cells mean.
use Rattle.std.specs.Prelude.{◌≡◌, ℕ, ◌<◌, ◌≤◌, ◌^◌, List, length, map, slice_index}
use Rattle.std.specs.Ordering.{nat_cmp}
use Rattle.std.specs.Cmp.Lexicographic.{slice_cmp}
use Rattle.std.specs.Global.{Vec}
use Rattle.std.specs.FinMap.{from_sorted}
use Rattle.std.specs.BTreeMap.{IsOrdered}
use Rattle.mica_words.specs.declared.hashing.Hashing.{Hashing}
use Rattle.mica_model.specs.declared.cell.Cell.{Cell as CellInCode}
use Rattle.mica_model.specs.declared.cell_table.CellTable.TheInside.{Inside}
use Rattle.partition_model.specs.Store.{Cell, Cells, rooms, keys_in, spares_in_use}
use Rattle.mica_model.specs.CellTable.{Table, cell_of}

abbrev pub entries_of : List (Vec ℕ × CellInCode) → List (List ℕ × Cell)
entries_of entries = map (λ entry. (entry.0.items, cell_of entry.1)) entries

abbrev pub cells_of : Inside → Cells
cells_of a = from_sorted (entries_of a.cells.entries)

abbrev pub table_of : Inside → Table
table_of a = record { hashing = a.hashing; buckets = a.buckets; cells = cells_of a }

-- each bucket has as many keys as the list has in its place
abbrev pub HasCounts : Hashing → ℕ → List ℕ → Cells → Type 0
HasCounts hashing buckets counts cells = (bucket : ℕ) → bucket < buckets → slice_index counts bucket ≡ keys_in hashing buckets bucket cells

-- the keys are in order, and the numbers are those of the cells
pub record IsTable (a : Inside) : Type 0 where
  pub ordered : IsOrdered (λ x y. slice_cmp nat_cmp x.items y.items) a.cells
  pub some : 1 ≤ a.buckets
  pub len : length a.counts.keys.items ≡ a.buckets
  pub counts : HasCounts a.hashing a.buckets a.counts.keys.items (cells_of a)
  pub spares : a.counts.spares ≡ spares_in_use a.hashing a.buckets (cells_of a)
  pub small : a.counts.spares < 2 ^ 32
  pub rooms : a.rooms ≡ rooms (cells_of a)
