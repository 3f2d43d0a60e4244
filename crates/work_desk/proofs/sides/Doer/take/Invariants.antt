use Rattle.std.proofs.Common.{◌≡◌, None, []}
use Rattle.std.specs.Arc.{arc_value}
use Rattle.work_desk.specs.Desk.{doer, IsAtDesk}
use Rattle.work_desk.proofs.sides.Doer.take.Given as goal

abbrev pub invariant-loop : goal.invariant-loop
invariant-loop g l = (l.self-inside.seat.me ≡ (doer l.fn.self.terms None, [])) × IsAtDesk (arc_value l.self-inside.table).shared.table_id l.self-inside.seat.table_id
