use Rattle.std.proofs.Common.{rules, ap, ◌∙◌}
use Rattle.work_desk.proofs.Steps.{giver_idle, end_rule}
use Rattle.work_desk.proofs.sides.Giver.end.Goals as goal

pub store-requires : goal.store-requires
store-requires g c =
    let free = c.self.view_is ∙ c.requires in (
      search rules,
      search rules,
      end_rule g.T.Work.unset g.T.Work.ready g.T.Work.done _ _ c.self.inside.seat.me _ _
          (giver_idle c.self.inside.seat.me (ap (λ k. k.stage) free) (ap (λ k. k.work) free) c.self.invariant.2),
    )
