use Rattle.std.proofs.Common.{refl}
use Rattle.locked_front.proofs.Getting.{gets_on}
use Rattle.locked_front.proofs.part.LockedPart.get_without_lock.Goals as goal

pub returns-clause-looked : goal.returns-clause-looked
returns-clause-looked g c =
    gets_on g.J.ServerPlan.plan c.args._number c.args.self.now c.try_get.new.self c.args.key.now c.in_ok-answer.answer c.in_ok-answer.stamp c.try_get.new.found c.requires.own c.in_ok-answer.ensures.looked
    c.args.second c.when_at.result c.when_at.ensures (g.D.Decide.needs c.args.decide.now) (g.D.Decide.becoming c.args.decide.now) (c.if-not-only_gets.ensures refl)
