use Rattle.std.proofs.Common.{◌≢◌, rules, ◌∙◌, None, Some, ◌∷◌}
use Rattle.atomic_table.specs.Table.{rest}
use Rattle.work_desk.specs.declared.rule.Stage.TheVariants.{Does, Dismissed}
use Rattle.work_desk.proofs.Steps.{at_work, doer_busy, give_rule}
use Rattle.work_desk.proofs.sides.Doer.give_back.Goals as goal

pub store-requires : goal.store-requires
store-requires g c =
    let some : c.self.inside.seat.me.0.work ≢ None = rw c.self.view_is c.requires.taken in
    let busy = doer_busy c.self.inside.seat.me (at_work Does Dismissed c.self.inside.seat.me.0 c.self.invariant.1 some) some c.self.invariant.2 in (
      search rules,
      search rules,
      give_rule g.T.Work.unset g.T.Work.ready g.T.Work.done _ _ c.exchange.new.seat.me c.self.inside.seat.me.0.terms c.self.inside.seat.me.0.work c.args.work
          (c.exchange.ensures.3 ∙ (λ i. ((busy i).0, (0, Some c.args.work) ∷ rest (busy i).1))) some (rw c.self.view_is c.requires.done),
    )
