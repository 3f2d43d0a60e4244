use Rattle.core_tests.proofs.Held.{AreHeld}
use Rattle.core_tests.proofs.heap.is_worked.Given as goal

abbrev pub invariant-loop-call : goal.invariant-loop-call
invariant-loop-call l = AreHeld l.heap l.sizes
