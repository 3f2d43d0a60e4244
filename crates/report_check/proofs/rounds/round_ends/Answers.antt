use Rattle.std.proofs.Common.{sym, subst}
use Rattle.report_check.proofs.RoundEnds.{AreEndsTo, ends_none, ends_all}
use Rattle.report_check.proofs.rounds.round_ends.Goals as goal

pub loop-from-init : goal.loop-from-init
loop-from-init c = subst (AreEndsTo c.args.trace.now 0) (sym c.new-ends.ensures.items) (ends_none c.args.trace.now)

pub returns : goal.returns
returns c = ends_all c.args.trace.now c.loop-from.from c.loop-from.ends.items c.loop-from.invariant c.loop-from-test.false
