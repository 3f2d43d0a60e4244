use Rattle.std.proofs.Common.{refl}
use Rattle.locked_front.proofs.Telling.{reads_hit, reads_miss}
use Rattle.locked_front.proofs.part.LockedPart.read.Goals as goal

pub returns-in-Hit : goal.returns-in-Hit
returns-in-Hit g c =
    let old = c.args.self.now in
    reads_hit g.J.ServerPlan.plan c.args._number old (record old { seat = c.ask_hashed.new.seat; last = c.in-Hit.stamp; newest = c.in-Hit.stamp }) c.args.key.now c.in-Hit.stamp c.ask_hashed.new.out c.requires.own refl refl refl refl
    c.ask_hashed.ensures.home c.ask_hashed.result c.in-Hit.is c.ask_hashed.ensures.answered

pub returns-in-Miss : goal.returns-in-Miss
returns-in-Miss g c =
    let old = c.args.self.now in
    reads_miss g.J.ServerPlan.plan c.args._number old (record old { seat = c.ask_hashed.new.seat; last = c.in-Miss.stamp; newest = c.in-Miss.stamp }) c.args.key.now c.in-Miss.stamp c.ask_hashed.new.out c.requires.own refl refl refl refl
    c.ask_hashed.ensures.home c.ask_hashed.result c.in-Miss.is c.ask_hashed.ensures.answered
