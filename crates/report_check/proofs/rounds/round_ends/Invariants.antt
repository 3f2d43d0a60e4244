use Rattle.std.proofs.Common.{◌-◌, length}
use Rattle.report_check.proofs.RoundEnds.{AreEndsTo}
use Rattle.report_check.proofs.rounds.round_ends.Given as goal

abbrev pub invariant-loop-from : goal.invariant-loop-from
invariant-loop-from l = AreEndsTo l.trace l.from l.ends.items

abbrev pub decreases-loop-from : goal.decreases-loop-from
decreases-loop-from l = length l.trace - l.from
