use Rattle.std.proofs.Common.{◌≡◌, ◌++◌, ◌+◌, ◌≤◌, length, map, vec_len, vec_capacity}
use Rattle.std.specs.Vec.Iter.{into_iter_items}
use Rattle.locked_server.proofs.worker.pair_up.Given as goal

abbrev pub invariant-loop-end : goal.invariant-loop-end
invariant-loop-end g l = record {
  hands : map (λ t. t.parts) l.tasks.items ++ into_iter_items l.left ≡ l.fn.hands.items;
  ends : map (λ t. t.end) l.tasks.items ≡ l.yielded;
  many : length (into_iter_items l.left) + length l.yielded ≡ length l.fn.ends.items;
  len : vec_len l.tasks ≡ length l.yielded;
  room : vec_len l.fn.ends ≤ vec_capacity l.tasks;
}
