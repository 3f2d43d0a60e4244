use Rattle.memory_connections.specs.MemoryConnections.{log_of}
use Rattle.memory_connections.proofs.Told.{write_told}
use Rattle.memory_connections.proofs.memory_connections.MemConnectionsConnections.write.Goals as goal

pub returns-clause-written : goal.returns-clause-written
returns-clause-written c =
    write_told (log_of c.args.self.now) c.args.number c.place-place.result c.args.self.now.piece c.args.piece.now _ c.meet.new.self c.write.new.self c.place-place.ensures.at
    (record { schedule = c.meet.ensures.schedule; entries = c.meet.ensures.entries }) c.write.ensures.takes c.write.ensures.entries c.write.ensures.schedule
