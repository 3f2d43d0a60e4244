use Rattle.std.proofs.Common.{◌≡◌, []}
use Rattle.std.specs.Arc.{arc_value}
use Rattle.work_desk.specs.Desk.{giver, IsAtDesk}
use Rattle.work_desk.proofs.sides.Giver.take_back.Given as goal

abbrev pub invariant-loop : goal.invariant-loop
invariant-loop g l = (l.self-inside.seat.me ≡ (giver l.fn.self.terms l.fn.self.work, [])) × IsAtDesk (arc_value l.self-inside.table).shared.table_id l.self-inside.seat.table_id
