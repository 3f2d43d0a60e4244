use Rattle.std.proofs.Common.{◌≡◌}
use Rattle.work_desk.proofs.RowSteps.{told_to}
use Rattle.work_desk.proofs.rows.end_all.Given as goal

abbrev pub invariant-loop-desk : goal.invariant-loop-desk
invariant-loop-desk g l = (l.givers.items ≡ told_to l.desk l.initial.givers.items)
