use Rattle.std.proofs.Common.{◌≡◌, ◌++◌, ◌+◌, ◌≤◌, length, map, vec_len, vec_capacity}
use Rattle.std.specs.Vec.Iter.{into_iter_items}
use Rattle.locked_server.proofs.streams.pair_streams.Given as goal

abbrev pub invariant-loop-share : goal.invariant-loop-share
invariant-loop-share g l = record {
  hands : map (λ t. t.parts) l.tasks.items ++ into_iter_items l.left ≡ l.fn.hands.items;
  shares : map (λ t. t.share) l.tasks.items ≡ l.yielded;
  many : length (into_iter_items l.left) + length l.yielded ≡ length l.fn.shares.items;
  len : vec_len l.tasks ≡ length l.yielded;
  room : vec_len l.fn.shares ≤ vec_capacity l.tasks;
}
