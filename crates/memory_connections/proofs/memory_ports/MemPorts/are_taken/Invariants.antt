use Rattle.std.proofs.Common.{◌≡◌, ◌+◌, ◌-◌}
use Rattle.connections.specs.Shares.{are_awaited}
use Rattle.memory_connections.specs.MemoryPorts.{logs_at, seating_in}
use Rattle.memory_connections.proofs.memory_ports.MemPorts.are_taken.Given as goal

abbrev pub invariant-loop-k : goal.invariant-loop-k
invariant-loop-k l = are_awaited (l.first + l.k) (l.count - l.k) (logs_at (seating_in l.self.seats.items)) ≡ are_awaited l.first l.count (logs_at (seating_in l.self.seats.items))
