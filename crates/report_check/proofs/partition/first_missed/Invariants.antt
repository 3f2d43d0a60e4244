use Rattle.report_check.proofs.Judging.{LeavesUpTo}
use Rattle.report_check.proofs.partition.first_missed.Given as goal

abbrev pub invariant-loop-at : goal.invariant-loop-at
invariant-loop-at l = LeavesUpTo l.asked l.fn.settling l.at l.missed
