use Rattle.std.proofs.Common.{rules, ap, ◌∙◌}
use Rattle.work_desk.specs.Desk.{open_desk}
use Rattle.work_desk.proofs.Steps.{open_rule, split_rule}
use Rattle.work_desk.proofs.sides.make_desk.Goals as goal

pub load-requires : goal.load-requires
load-requires g c = (search rules, search rules, open_rule g.T.Work.unset g.T.Work.ready g.T.Work.done _ _ c.in_ok-table.seat.me c.in_ok-table.ensures.4)

pub split_seat-other-requires : goal.split_seat-other-requires
split_seat-other-requires g c = (search rules, search rules, split_rule g.T.Work.unset g.T.Work.ready g.T.Work.done _ _ _ (ap (λ m. m.0) c.load.ensures.2 ∙ ap (λ m. open_desk m.0.terms) c.in_ok-table.ensures.4))
