use Rattle.std.proofs.Common.{sym, ◌∙◌}
use Rattle.locked_front.proofs.Turning.{look_here}
use Rattle.locked_front.proofs.owned.OwnedPartition.change.Goals as goal

pub change_here-requires-clause-own : goal.change_here-requires-clause-own
change_here-requires-clause-own g c = c.requires.own ∙ sym (c.has_come.ensures c.if-has_come.true).book

pub returns-then-has_come-clause-looked : goal.returns-then-has_come-clause-looked
returns-then-has_come-clause-looked g c = look_here (c.has_come.ensures c.if-has_come.true) c.change_here.ensures.looked
