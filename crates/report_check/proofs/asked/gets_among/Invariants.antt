use Rattle.std.proofs.Common.{take}
use Rattle.report_check.specs.Settling.{AreGetsAmong}
use Rattle.report_check.proofs.asked.gets_among.Given as goal

abbrev pub invariant-loop-at : goal.invariant-loop-at
invariant-loop-at l = AreGetsAmong l.trace l.report (take l.at l.lines) l.asked.items
