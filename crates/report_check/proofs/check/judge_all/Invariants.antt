use Rattle.report_check.specs.Found.{AreFound}
use Rattle.report_check.proofs.check.judge_all.Given as goal

abbrev pub invariant-loop-p : goal.invariant-loop-p
invariant-loop-p l = AreFound l.options l.p l.trace l.report l.found
