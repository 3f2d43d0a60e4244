-- What a part of the keys has, as clients see it.
use Rattle.std.specs.Prelude.{ℕ, ◌+◌, List, bytes_eq, Option, Some, None, if◌then◌else◌}
use Rattle.memcached_text.specs.declared.item.Item.{Item}
use Rattle.memcached_commands.specs.declared.moment.Moment.{Moment}
use Rattle.memcached_commands.specs.Moments.{is_there}
use Rattle.memcached_commands.specs.Decide.{Becoming, stays, becomes, goes}
use Rattle.fronts.specs.Flushes.{flushed_at, waits_at, no_flushes}
use Rattle.fronts.specs.declared.flushes.Flushes.{Flushes}

-- The item that was stored under each key; a number above all that its values got; and its flushes, which take the items of lower numbers.
pub record Shelf : Type 0 where
  pub items : List ℕ → Option Item
  pub free : ℕ
  pub flushes : Flushes

abbrev pub empty : Shelf
empty = record { items = λ key. None; free = 0; flushes = no_flushes }

-- a second, where a new value gets this number
abbrev pub at : ℕ → ℕ → Shelf → Moment
at second number shelf = record { second = second; flushed = flushed_at second shelf.flushes; unique = number; until = waits_at second shelf.flushes }

-- the item that a command finds: one that is over or flushed is as none
abbrev pub there : Moment → Option Item → Option Item
there moment None = None
there moment (Some item) = if is_there moment item then Some item else None

abbrev pub with_item : List ℕ → Option Item → Shelf → Shelf
with_item key item shelf = record shelf { items = λ other. if bytes_eq other key then item else shelf.items other }

-- the key has what becomes of its item
abbrev pub becomes_of : Moment → List ℕ → Becoming → Shelf → Shelf
becomes_of moment key stays shelf = shelf
becomes_of moment key goes shelf = with_item key None shelf
becomes_of moment key (becomes item) shelf = record (with_item key (Some item) shelf) { free = moment.unique + 1 }
