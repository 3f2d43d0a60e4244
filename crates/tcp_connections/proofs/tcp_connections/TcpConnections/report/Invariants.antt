use Rattle.std.proofs.Common.{◌≡◌, ◌<◌}
use Rattle.tcp_connections.proofs.tcp_connections.TcpConnections.report.Given as goal

abbrev pub invariant-loop : goal.invariant-loop
invariant-loop g l = record {
  share : l.self.share ≡ l.initial.self.share;
  faults : l.self.faults ≡ l.initial.self.faults;
  second : l.self.second ≡ l.initial.self.second;
  ended : l.self.ended ≡ l.initial.self.ended;
  left : l.self.left ≡ l.initial.self.left;
  some : 0 < l.initial.self.left;
}
