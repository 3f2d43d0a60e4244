-- What contracts see of a share over TCP, which tells no log.
use Rattle.std.specs.Prelude.{None}
use Rattle.connections.specs.Shares.{ShareFacts}
use Rattle.tcp_connections.specs.declared.tcp_connections.TcpConnections.{TcpConnections}

abbrev pub facts_of : {R K : Type 0} → TcpConnections R K → ShareFacts
facts_of c = record { share = c.share; faults = c.faults; has_ended = c.ended; log = None }
