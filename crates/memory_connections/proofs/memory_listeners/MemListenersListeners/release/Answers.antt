use Rattle.std.proofs.Common.{Some, refl, ap, ◌∙◌}
use Rattle.memory_connections.specs.MemoryConnections.{log_of}
use Rattle.memory_connections.specs.MemoryPorts.{seating_in, with_seat}
use Rattle.memory_connections.proofs.Seats.{logs_put}
use Rattle.memory_connections.proofs.memory_listeners.MemListenersListeners.release.Goals as goal

pub returns-clause-released : goal.returns-clause-released
returns-clause-released c =
    let connections = c.args.connections.connections.value in
    let old = seating_in c.args.self.now.released.seats.items in
    logs_put connections.share connections (Some (log_of connections)) old (seating_in c.put.new.self.seats.items)
    (c.put.ensures.at ∙ ap (λ m. with_seat m.share (Some connections) old) c.deref.ensures) refl
