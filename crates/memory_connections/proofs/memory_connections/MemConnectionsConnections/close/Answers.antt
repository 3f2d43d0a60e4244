use Rattle.connections.proofs.Places.{held_open}
use Rattle.memory_connections.specs.Stage.{played_connections}
use Rattle.memory_connections.proofs.memory_connections.MemConnectionsConnections.close.Goals as goal

pub close-requires-clause-open : goal.close-requires-clause-open
close-requires-clause-open c = held_open c.args.number (played_connections c.args.self.now.stage) c.place-place.result c.place-place.ensures.at
