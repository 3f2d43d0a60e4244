use Rattle.std.proofs.Common.{◌≡◌, length}
use Rattle.std.specs.Prelude.{vec_capacity}
use Rattle.work_desk.proofs.RowSteps.{TakenTo}
use Rattle.work_desk.proofs.rows.take_all_back.Given as goal

abbrev pub invariant-loop-p : goal.invariant-loop-p
invariant-loop-p g l = record {
  taken : TakenTo g.T.Work.done l.initial.givers.items l.givers.items l.works.items;
  many : length l.works.items ≡ l.p;
  room : vec_capacity l.works ≡ vec_capacity l.initial.works;
}
