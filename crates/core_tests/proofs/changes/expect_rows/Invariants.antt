use Rattle.std.proofs.Common.{◌+◌, ◌*◌, ◌≤◌}
use Rattle.core_tests.proofs.changes.expect_rows.Given as goal

abbrev pub invariant-loop-i : goal.invariant-loop-i
invariant-loop-i g l = g.F.Front.left l.initial.front ≤ g.F.Front.left l.front + 8 * l.i
