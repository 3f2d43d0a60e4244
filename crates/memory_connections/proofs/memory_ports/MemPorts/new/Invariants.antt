use Rattle.std.proofs.Common.{◌≡◌, ◌≤◌, length}
use Rattle.std.specs.Vec.{vec_capacity}
use Rattle.memory_connections.specs.MemoryPorts.{taken_in}
use Rattle.memory_connections.proofs.memory_ports.MemPorts.new.Given as goal

abbrev pub invariant-loop : goal.invariant-loop
invariant-loop l = (length l.seats.items ≡ l.counter) × (65536 ≤ vec_capacity l.seats) × (taken_in l.seats.items ≡ 0)
