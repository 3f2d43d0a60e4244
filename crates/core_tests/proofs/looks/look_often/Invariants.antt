use Rattle.std.proofs.Common.{◌+◌, ◌≤◌}
use Rattle.core_tests.proofs.looks.look_often.Given as goal

abbrev pub invariant-loop : goal.invariant-loop
invariant-loop g l = 10000 ≤ g.F.Front.left l.front + l.counter
