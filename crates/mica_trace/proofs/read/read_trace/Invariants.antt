use Rattle.std.proofs.Common.{length}
use Rattle.mica_trace.proofs.Reading.{HasRead}
use Rattle.mica_trace.proofs.read.read_trace.Given as goal

abbrev pub invariant-loop-rest : goal.invariant-loop-rest
invariant-loop-rest l = HasRead l.from l.lines.items l.rest l.syncs

abbrev pub decreases-loop-rest : goal.decreases-loop-rest
decreases-loop-rest l = length l.rest
