use Rattle.std.proofs.Common.{◌≡◌, length}
use Rattle.tcp_connections.proofs.tcp_listeners.open_shares.Given as goal

abbrev pub invariant-loop-seat-2 : goal.invariant-loop-seat-2
invariant-loop-seat-2 g l = length l.ports.items ≡ l.seat
