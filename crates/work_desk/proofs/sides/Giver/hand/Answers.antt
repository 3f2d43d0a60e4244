use Rattle.std.proofs.Common.{rules, ap, ◌∙◌, Some, ◌∷◌}
use Rattle.atomic_table.specs.Table.{rest}
use Rattle.work_desk.proofs.Steps.{giver_idle, hand_rule}
use Rattle.work_desk.proofs.sides.Giver.hand.Goals as goal

pub store-requires : goal.store-requires
store-requires g c =
    let free = c.self.view_is ∙ c.requires.free in
    let idle = giver_idle c.self.inside.seat.me (ap (λ k. k.stage) free) (ap (λ k. k.work) free) c.self.invariant.2 in (
      search rules,
      search rules,
      hand_rule g.T.Work.unset g.T.Work.ready g.T.Work.done _ _ c.exchange.new.seat.me c.self.inside.seat.me.0.terms c.args.work
          (c.exchange.ensures.3 ∙ ap (λ m. (m.0, (0, Some c.args.work) ∷ rest m.1)) idle) (rw c.self.view_is c.requires.ready),
    )
