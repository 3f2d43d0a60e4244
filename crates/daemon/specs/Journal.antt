-- What is told of a kind of trouble while a server goes on: a line a minute at most.
use Rattle.std.specs.Prelude.{ℕ, ◌-◌, Bool, true, ◌&&◌, nat_le, nat_lt, Option, Some, None, if◌then◌else◌}
use Rattle.daemon.specs.declared.journal.Told.{Told}
use Rattle.daemon.specs.declared.journal.TheConstants.{MINUTE}

-- a minute has passed since the second of the last line, if there was one
abbrev pub is_minute_behind : Option ℕ → ℕ → Bool
is_minute_behind None second = true
is_minute_behind (Some last) second = nat_le MINUTE (second - last)

-- it came more often than was told, and may be told at this second
abbrev pub is_due : Told → ℕ → ℕ → Bool
is_due told count second = nat_lt told.count count && is_minute_behind told.second second

-- how often it came since it was told last, where it is told at this second
abbrev pub due_of : Told → ℕ → ℕ → Option ℕ
due_of told count second = if is_due told count second then Some (count - told.count) else None

-- what was told behind that
abbrev pub told_after : Told → ℕ → ℕ → Told
told_after told count second = if is_due told count second then record { count = count; second = Some second } else told
