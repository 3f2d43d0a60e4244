-- The table of cells in a store machine, as contracts see it.
use Rattle.std.specs.Prelude.{◌≡◌, ℕ, ◌<◌, ◌%◌, List, refl}
use Rattle.std.specs.Coded.{Coded, code_by, coded×, coded_ℕ}
use Rattle.std.specs.FinMap as map
use Rattle.mica_words.specs.declared.hashing.Hashing.{Hashing}
use Rattle.mica_words.specs.Hash.{bucket_of}
use Rattle.mica_words.specs.declared.entry.TheConstants.{SLOTS}
use Rattle.mica_model.specs.declared.cell.Cell.{Cell as CellInCode}
use Rattle.partition_model.specs.Store.{Cell, Cells, keys_in, spares_in_use}
use Rattle.mica_model.specs.Codes.{text_code, cell_code, hashing_code}

pub record Table : Type 0 where
  pub hashing : Hashing
  pub buckets : ℕ
  pub cells : Cells

abbrev pub table_code : Coded Table
table_code =
    code_by (Hashing × (ℕ × Cells)) (coded× hashing_code (coded× coded_ℕ (map.code text_code cell_code))) (λ t. (t.hashing, (t.buckets, t.cells)))
    (λ p. record { hashing = p.0; buckets = p.1.0; cells = p.1.1 }) (λ _. refl)

abbrev pub cell_of : CellInCode → Cell
cell_of cell = record { value = cell.value; room = cell.room }

-- the table with these cells
abbrev pub with_cells : Table → Cells → Table
with_cells table cells = record { hashing = table.hashing; buckets = table.buckets; cells = cells }

-- the key's bucket and the spares behind it are full, and no other spare is left
pub record LacksSpare (table : Table) (key : List ℕ) (spares : ℕ) : Type 0 where
  pub some : 0 < keys_in table.hashing table.buckets (bucket_of table.hashing key table.buckets) table.cells
  pub full : keys_in table.hashing table.buckets (bucket_of table.hashing key table.buckets) table.cells % SLOTS ≡ 0
  pub none_left : spares_in_use table.hashing table.buckets table.cells ≡ spares
