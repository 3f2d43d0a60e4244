-- What buffers hold.
use Rattle.std.specs.Global.{Box}
use Rattle.std.specs.Prelude.{◌≡◌, ℕ, ◌+◌, ◌-◌, ◌*◌, ◌<◌, ◌≤◌, List, [], take, Option, None, Some, vec_len}
use Rattle.memcached_text.specs.declared.limits.TheConstants.{MAX_WAITING_LEN}
use Rattle.memcached_text.specs.Lines.{Lacks}
use Rattle.connections.specs.declared.connections.Input.{Input}
use Rattle.connections.specs.declared.connections.Input.TheVariants.{Bytes, All}
use Rattle.connection_loop.specs.declared.kept.Filled.{Filled}

-- the bytes that are kept in a buffer
abbrev pub bytes_of : Filled → List ℕ
bytes_of filled = take filled.len filled.room.items

-- There are some, as far as there is room. Those that were looked through have no line feed.
pub record IsFilled (filled : Filled) : Type 0 where
  pub some : 0 < filled.len
  pub fits : filled.len ≤ vec_len filled.room
  pub looked : filled.seen ≤ filled.len
  pub seen : Lacks 10 (take filled.seen filled.room.items)

-- the bytes in a buffer; none, where there is none
abbrev pub bytes_in : Option (Box Filled) → List ℕ
bytes_in None = []
bytes_in (Some buffer) = bytes_of buffer.value

-- how many bytes a read gave
abbrev pub count_in : Option Input → ℕ
count_in (Some (Bytes count)) = count
count_in (Some (All count)) = count
count_in _ = 0

-- how far a read brought the bytes that are kept; where none was made, there was no room for more
abbrev pub grown : Option Input → ℕ → ℕ → Type 0
grown None had has = (has ≡ had) × (had ≡ MAX_WAITING_LEN)
grown (Some (Bytes count)) had has = (has ≡ had + count) × (0 < count)
grown (Some (All count)) had has = (has ≡ had + count) × (0 < count)
grown (Some _) had has = has ≡ had

-- so many bytes more let a connection be asked for again so much more often
abbrev pub filled_on : ℕ → ℕ → ℕ
filled_on had has = 2 * (has - had)
