use Rattle.std.proofs.Common.{◌≡◌, length, ◌-◌, ◌≤◌}
use Rattle.std.specs.Prelude.{is_some, IfSome}
use Rattle.connection_loop.specs.Open.{IsOpen, Keeps, OnLogs}
use Rattle.connection_loop.specs.Traffic.{OnHeld}
use Rattle.connection_loop.proofs.Traffic.{SendsFirst}
use Rattle.connection_loop.proofs.calls.send.Given as goal

abbrev pub invariant-loop-sent : goal.invariant-loop-sent
invariant-loop-sent g l =
    (l.sent ≤ length l.text)
    × OnLogs Keeps (g.C.Connections.log l.initial.connections) (g.C.Connections.log l.connections)
    × IfSome (g.C.Connections.log l.connections) (IsOpen l.number l.asks)
    × (is_some (g.C.Connections.log l.connections) ≡ is_some (g.C.Connections.log l.initial.connections))
    × (g.C.Connections.has_ended l.connections ≡ g.C.Connections.has_ended l.initial.connections)
    × (g.C.Connections.faults l.connections ≡ g.C.Connections.faults l.initial.connections)
    × (g.C.Connections.share l.connections ≡ g.C.Connections.share l.initial.connections)
    × OnLogs (OnHeld l.number (SendsFirst l.text l.sent)) (g.C.Connections.log l.initial.connections) (g.C.Connections.log l.connections)
    × (g.C.Connections.reports l.connections ≤ g.C.Connections.reports l.initial.connections)
    × (g.C.Connections.last l.initial.connections ≤ g.C.Connections.last l.connections)

abbrev pub decreases-loop-sent : goal.decreases-loop-sent
decreases-loop-sent g l = length l.text - l.sent
