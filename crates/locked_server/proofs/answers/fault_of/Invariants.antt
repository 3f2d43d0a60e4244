use Rattle.locked_server.proofs.Faults.{FaultTo}
use Rattle.locked_server.proofs.answers.fault_of.Given as goal

abbrev pub invariant-loop-answer : goal.invariant-loop-answer
invariant-loop-answer l = FaultTo l.answer-index l.streams l.failed
