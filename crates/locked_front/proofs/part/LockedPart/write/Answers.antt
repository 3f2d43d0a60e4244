use Rattle.std.proofs.Common.{refl, sym, ap, ◌∙◌, subst, ℕ}
use Rattle.partition_model.specs.History.{History}
use Rattle.partition_model.specs.Write.{write_of}
use Rattle.locked_front.specs.declared.part.LockedPart.{LockedPart}
use Rattle.locked_front.specs.Owned.{TookTurn}
use Rattle.locked_front.proofs.Telling.{part_writes}
use Rattle.locked_front.proofs.part.LockedPart.write.Goals as goal

pub write_under_lock-outcome-requires-clause-own : goal.write_under_lock-outcome-requires-clause-own
write_under_lock-outcome-requires-clause-own g c = c.requires.own.book ∙ ap g.J.ServerPlan.plan.books (sym c.requires.lock)

pub learn-requires : goal.learn-requires
learn-requires g c = c.write_under_lock-outcome.ensures.1.seen.home ∙ ap g.J.ServerPlan.plan.homes c.requires.lock ∙ sym c.requires.own.home

pub returns : goal.returns
returns g c =
    let plan = g.J.ServerPlan.plan in
    let old = c.args.self.now in
    let held : LockedPart = record old { taker = c.write_under_lock-outcome.new.taker } in
    let wrote = c.write_under_lock-outcome.result in
    let write = write_of c.args.op c.args.key.now c.args.value.now in
    let took = subst (λ (n : ℕ). (before : History) × TookTurn plan n old.newest before old.taker c.write_under_lock-outcome.new.taker write wrote.outcome wrote.learned) c.requires.lock c.write_under_lock-outcome.ensures in
    part_writes plan c.args.number old held c.learn.new.self wrote.learned c.requires.own refl c.learn.ensures took.0 write wrote.outcome took.1
