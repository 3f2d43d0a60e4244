-- The log of connections in memory.
use Rattle.memory_connections.specs.declared.memory_connections.MemConnections.{MemConnections}
use Rattle.connections.specs.Log.{Log}

abbrev pub log_of : MemConnections → Log
log_of c = record {
  schedule = c.stage.schedule;
  script = record { fails = c.fails.items; calls = c.calls; piece = c.piece };
  entries = c.stage.entries;
}
