-- What contracts see of a share of which is heard.
use Rattle.std.specs.Prelude.{Some}
use Rattle.connections.specs.Shares.{ShareFacts}
use Rattle.memory_connections.specs.MemoryConnections.{log_of}
use Rattle.server_rows.specs.declared.overheard.OverheardConnections.{OverheardConnections}

abbrev pub facts_of : OverheardConnections → ShareFacts
facts_of c = record { share = c.connections.share; faults = c.connections.faults; has_ended = c.connections.ended; log = Some (log_of c.connections) }
