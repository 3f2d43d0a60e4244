-- Whether a share over TCP has ended.
use Rattle.std.specs.Prelude.{Bool}
use Rattle.tcp_connections.specs.declared.tcp_connections.TcpConnections.{TcpConnections}

abbrev pub has_ended : {R K : Type 0} → TcpConnections R K → Bool
has_ended connections = connections.ended
