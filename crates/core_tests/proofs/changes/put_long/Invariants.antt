use Rattle.std.proofs.Common.{◌+◌, ◌≤◌}
use Rattle.core_tests.proofs.changes.put_long.Given as goal

abbrev pub invariant-loop-i : goal.invariant-loop-i
invariant-loop-i g l = g.F.Front.left l.initial.front ≤ g.F.Front.left l.front + l.i
