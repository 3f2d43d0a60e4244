use Rattle.std.proofs.Common.{◌≡◌, ◌+◌, ◌*◌, ◌≤◌}
use Rattle.core_tests.proofs.sweeps.sweep_all.Given as goal

abbrev pub invariant-loop : goal.invariant-loop
invariant-loop g l =
    (g.F.Front.left l.initial.front ≤ g.F.Front.left l.front + 64 * l.counter) × (g.F.Front.options l.front ≡ g.F.Front.options l.initial.front)
