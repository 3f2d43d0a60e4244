-- What contracts see of a book and of its takers.
use Rattle.std.specs.Prelude.{ℕ, ◌==◌, List, Some, None, if◌then◌else◌}
use Rattle.std.specs.List.{filter_map}
use Rattle.atomic_table.specs.Seated.{TableId}
use Rattle.turn_book.specs.declared.rule.Entry.{Entry}

-- which book it is, how many takers it has, and what they entered
pub record BookView (T : Type 0) : Type 0 where
  pub table : TableId
  pub takers : ℕ
  pub entries : List (Entry T)

-- the book that it is of, its number, and what it entered
pub record TakerView (T : Type 0) : Type 0 where
  pub table : TableId
  pub number : ℕ
  pub mine : List T

module _ {T : Type 0} where
  -- an entry of these parts
  abbrev pub entry : ℕ → T → Entry T
  entry number what = record { taker = number; what = what }

  -- what one taker entered, in order
  abbrev pub entries_by : ℕ → List (Entry T) → List T
  entries_by number entries = filter_map (λ e. if e.taker == number then Some e.what else None) entries

  -- what contracts see of a book
  abbrev pub book_view : TableId → ℕ → List (Entry T) → BookView T
  book_view table takers entries = record { table = table; takers = takers; entries = entries }

  -- what contracts see of a taker
  abbrev pub taker_view : TableId → ℕ → List T → TakerView T
  taker_view table number mine = record { table = table; number = number; mine = mine }
