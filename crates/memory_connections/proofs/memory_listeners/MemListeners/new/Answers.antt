use Rattle.memory_connections.specs.MemoryPorts.{seating_in}
use Rattle.memory_connections.proofs.Seats.{none_new}
use Rattle.memory_connections.proofs.memory_listeners.MemListeners.new.Goals as goal

pub invariant_of-result-clause-unused : goal.invariant_of-result-clause-unused
invariant_of-result-clause-unused c = none_new (seating_in c.in_ok-new.field-0.seats.items) c.in_ok-new.ensures.none
