use Rattle.std.proofs.Common.{◌≡◌, ◌≤◌, None, replicate}
use Rattle.std.specs.Prelude.{vec_len, vec_capacity}
use Rattle.work_desk.specs.Desk.{giver, doer}
use Rattle.work_desk.proofs.rows.make_desks.Given as goal

abbrev pub invariant-loop : goal.invariant-loop
invariant-loop g l = record {
  givers : l.givers.items ≡ replicate l.counter (giver g.J.Terms.terms None);
  doers : l.doers.items ≡ replicate l.counter (doer g.J.Terms.terms None);
  many : vec_len l.givers ≡ l.counter;
  more : vec_len l.doers ≡ l.counter;
  room : l.count ≤ vec_capacity l.givers;
  places : l.count ≤ vec_capacity l.doers;
}
