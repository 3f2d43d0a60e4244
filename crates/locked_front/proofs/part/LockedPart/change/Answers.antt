use Rattle.std.proofs.Common.{refl, sym, ap, ◌∙◌, subst, ℕ}
use Rattle.partition_model.specs.History.{History}
use Rattle.locked_front.specs.declared.part.LockedPart.{LockedPart}
use Rattle.locked_front.specs.Owned.{TookLook}
use Rattle.locked_front.proofs.Getting.{still_part, changes_from}
use Rattle.locked_front.proofs.Telling.{look_home, part_changes}
use Rattle.locked_front.proofs.part.LockedPart.change.Goals as goal

pub change_under_lock-learned-requires-clause-own : goal.change_under_lock-learned-requires-clause-own
change_under_lock-learned-requires-clause-own g c =
    (still_part g.J.ServerPlan.plan c.args.number c.args.self.now c.get_without_lock.new.self c.requires.own c.in-None.ensures.none).book ∙ ap g.J.ServerPlan.plan.books (sym c.requires.lock)

pub learn-requires : goal.learn-requires
learn-requires g c =
    look_home c.change_under_lock-learned.ensures.1
    ∙ ap g.J.ServerPlan.plan.homes c.requires.lock
    ∙ sym (still_part g.J.ServerPlan.plan c.args.number c.args.self.now c.get_without_lock.new.self c.requires.own c.in-None.ensures.none).home

pub returns-in-None : goal.returns-in-None
returns-in-None g c =
    let plan = g.J.ServerPlan.plan in
    let rested = c.get_without_lock.new.self in
    let did = c.change_under_lock-learned in
    let part = still_part plan c.args.number c.args.self.now rested c.requires.own c.in-None.ensures.none in
    let held : LockedPart = record rested { taker = did.new.taker } in
    let looked = subst (λ (n : ℕ). (before : History) × TookLook plan n rested.newest c.args.second before c.args.key.now (g.D.Decide.needs c.args.decide.now) (g.D.Decide.becoming c.args.decide.now) rested.taker did.new.taker did.result.0 did.new.found did.result.1) c.requires.lock did.ensures in
    changes_from plan c.args.number c.args.self.now rested c.requires.own c.in-None.ensures.none c.learn.new.self
    (part_changes plan c.args.number c.args.second c.args.key.now _ _ rested held c.learn.new.self did.result.0 did.new.found did.result.1 part refl c.learn.ensures looked.0 looked.1)
