use Rattle.std.proofs.Common.{◌≡◌, ◌++◌, ◌+◌, ◌≤◌, length, map, Some, vec_len, vec_capacity}
use Rattle.std.specs.Vec.Iter.{into_iter_items}
use Rattle.mica_serve.proofs.worker.pair_up.Given as goal

abbrev pub invariant-loop-end : goal.invariant-loop-end
invariant-loop-end g l = record {
  fronts : map (λ t. t.front) l.tasks.items ++ map Some (into_iter_items l.left) ≡ map Some l.fn.fronts.items;
  ends : map (λ t. t.end) l.tasks.items ≡ l.yielded;
  many : length (into_iter_items l.left) + length l.yielded ≡ length l.fn.ends.items;
  len : vec_len l.tasks ≡ length l.yielded;
  room : vec_len l.fn.ends ≤ vec_capacity l.tasks;
  worker : l.worker ≡ l.fn.first_worker + length l.yielded;
}
