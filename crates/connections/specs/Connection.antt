-- One connection, as its end here has it.
use Rattle.std.specs.Prelude.{ℕ, ◌+◌, ◌-◌, ◌*◌, ◌||◌, Bool, true, false, List, [], ◌++◌, take, drop, Option, None, Some, is_some, if◌then◌else◌}
use Rattle.connections.specs.declared.schedule.Change.{Change}

-- nothing happens
abbrev pub nothing : Change
nothing = record { passes = 0; comes = 0; takes = 0; ends = false; breaks = None }

-- The number under which it is asked for, until it is closed here; what its peer sends and has not come; what has come and no read gave; how many
-- bytes writes take before the peer takes more; how often it may be had reported again, which is twice for each byte that was read; and how it stands.
pub record Connection : Type 0 where
  pub number : ℕ
  pub to_come : List ℕ
  pub waiting : List ℕ
  pub window : ℕ
  pub asks : ℕ
  pub has_ended : Bool
  pub is_broken : Bool
  pub is_closed : Bool

-- as it is made: all of what its peer sends is to come
abbrev pub new_connection : ℕ → ℕ → List ℕ → Connection
new_connection number window bytes = record {
  number = number;
  to_come = bytes;
  waiting = [];
  window = window;
  asks = 0;
  has_ended = false;
  is_broken = false;
  is_closed = false;
}

-- what can be read of what waits
abbrev pub readable : Option ℕ → List ℕ → List ℕ
readable None waiting = waiting
readable (Some count) waiting = take count waiting

-- the connection after a change of its peer
abbrev pub after_change : Change → Connection → Connection
after_change change c = record c {
  to_come = if change.ends || is_some change.breaks then [] else drop change.comes c.to_come;
  waiting = readable change.breaks (c.waiting ++ take change.comes c.to_come);
  window = c.window + change.takes;
  has_ended = c.has_ended || change.ends;
  is_broken = c.is_broken || is_some change.breaks;
}

-- after a read gave so many bytes
abbrev pub after_read : ℕ → Connection → Connection
after_read count c = record c { waiting = drop count c.waiting; asks = c.asks + 2 * count }

-- after a write took so many bytes
abbrev pub after_write : ℕ → Connection → Connection
after_write count c = record c { window = c.window - count }

-- the connection once it was reported again
abbrev pub after_ask : Connection → Connection
after_ask c = record c { asks = c.asks - 1 }

-- the connection once it was closed
abbrev pub after_close : Connection → Connection
after_close c = record c { is_closed = true }
