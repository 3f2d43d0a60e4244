use Rattle.std.proofs.Common.{◌≡◌}
use Rattle.std.specs.Prelude.{vec_len, vec_capacity}
use Rattle.work_desk.specs.Rows.{MayHand, handed}
use Rattle.work_desk.proofs.rows.hand_all.Given as goal

abbrev pub invariant-loop-work : goal.invariant-loop-work
invariant-loop-work g l = record {
  may : MayHand g.T.Work.ready l.works.items l.givers.items;
  same : handed l.works.items l.givers.items ≡ handed l.initial.works.items l.initial.givers.items;
  room : vec_capacity l.works ≡ vec_capacity l.initial.works;
}

abbrev pub decreases-loop-work : goal.decreases-loop-work
decreases-loop-work g l = vec_len l.works
