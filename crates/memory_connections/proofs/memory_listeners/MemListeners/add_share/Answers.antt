use Rattle.std.proofs.Common.{Some, ap, ◌∙◌}
use Rattle.connections.specs.Log.{new_log}
use Rattle.memory_connections.specs.MemoryConnections.{log_of}
use Rattle.memory_connections.specs.MemoryPorts.{seating_in}
use Rattle.memory_connections.proofs.Seats.{log_is, logs_put, new_with}
use Rattle.memory_connections.proofs.memory_listeners.MemListeners.add_share.Goals as goal

pub invariant_of-self-2-clause-unused : goal.invariant_of-self-2-clause-unused
invariant_of-self-2-clause-unused c =
    let made = c.in_ok-connections.ensures in
    let boxed = c.in_ok-connections-2 in
    new_with (seating_in c.args.self.now.waiting.seats.items) (seating_in c.put.new.self.seats.items) c.args.share boxed.connections.value c.put.ensures.at
    c.args.self.now.unused
    (ap (λ m. m.share) boxed.ensures.ok ∙ made.share)
    (ap (λ m. m.faults) boxed.ensures.ok ∙ made.open.1)
    (ap (λ m. m.ended) boxed.ensures.ok ∙ made.open.0)
    (ap (λ m. m.stage.entries) boxed.ensures.ok ∙ made.entries)

pub returns-clause-ok : goal.returns-clause-ok
returns-clause-ok c =
    let made = c.in_ok-connections in
    let boxed = c.in_ok-connections-2 in
    logs_put c.args.share boxed.connections.value (Some (new_log c.args.schedule.now (record { fails = c.args.fails.now; calls = 0; piece = c.args.piece })))
    (seating_in c.args.self.now.waiting.seats.items) (seating_in c.put.new.self.seats.items) c.put.ensures.at
    (ap (λ m. Some (log_of m)) boxed.ensures.ok
    ∙ log_is made.connections c.args.schedule.now c.args.fails.now c.args.piece made.ensures.schedule made.ensures.entries made.ensures.script.0 made.ensures.script.1
    made.ensures.script.2)
