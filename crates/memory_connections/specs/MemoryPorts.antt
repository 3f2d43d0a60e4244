-- Connections in memory at ports, where each number of a port has a seat.
use Rattle.std.specs.Global.{Box}
use Rattle.std.specs.Prelude.{◌≡◌, ℕ, suc, ◌==◌, false, List, [], ◌∷◌, slice_get, Option, None, Some, IfSome, option_map, if◌then◌else◌}
use Rattle.memory_connections.specs.declared.memory_connections.MemConnections.{MemConnections}
use Rattle.memory_connections.specs.declared.boxed_connections.BoxedConnections.{BoxedConnections}
use Rattle.memory_connections.specs.MemoryConnections.{log_of}
use Rattle.connections.specs.Shares.{ShareLogs, ShareFacts}

-- the connections at each port, where there are some
abbrev pub Seating : Type 0
Seating = ℕ → Option MemConnections

-- with these at a port, or with none there
abbrev pub with_seat : ℕ → Option MemConnections → Seating → Seating
with_seat port connections at = λ n. if n == port then connections else at n

-- the connections in a seat
abbrev pub in_seat : Option (Option (Box MemConnections)) → Option MemConnections
in_seat (Some (Some seat)) = Some seat.value
in_seat _ = None

abbrev pub seating_in : List (Option (Box MemConnections)) → Seating
seating_in seats = λ port. in_seat (slice_get seats port)

-- how many seats are taken
abbrev pub taken_in : List (Option (Box MemConnections)) → ℕ
taken_in [] = 0
taken_in (None ∷ seats) = taken_in seats
taken_in (Some seat ∷ seats) = suc (taken_in seats)

-- the log at each port
abbrev pub logs_at : Seating → ShareLogs
logs_at at = λ port. option_map log_of (at port)

-- connections at this port, with which nothing was done yet
pub record IsNewAt (port : ℕ) (c : MemConnections) : Type 0 where
  pub share_is : c.share ≡ port
  pub no_faults : c.faults ≡ 0
  pub unended : c.ended ≡ false
  pub fresh : c.stage.entries ≡ []

abbrev pub AreNew : Seating → Type 0
AreNew at = (port : ℕ) → IfSome (at port) (IsNewAt port)

-- what contracts see of connections that were taken, in their box
abbrev pub facts_of : BoxedConnections → ShareFacts
facts_of b = record { share = b.connections.value.share; faults = b.connections.value.faults; has_ended = b.connections.value.ended; log = Some (log_of b.connections.value) }
