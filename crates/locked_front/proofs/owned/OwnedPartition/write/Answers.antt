use Rattle.std.proofs.Common.{sym, ◌∙◌}
use Rattle.locked_front.proofs.Turning.{turn_here}
use Rattle.locked_front.proofs.owned.OwnedPartition.write.Goals as goal

pub step-requires-clause-own : goal.step-requires-clause-own
step-requires-clause-own g c = c.requires.own ∙ sym (c.has_come.ensures c.if-has_come.true).book

pub returns-then-has_come-clause-written : goal.returns-then-has_come-clause-written
returns-then-has_come-clause-written g c = turn_here (c.has_come.ensures c.if-has_come.true) c.step.ensures.took
