use Rattle.std.proofs.Common.{◌≡◌, ◌+◌, length, map, vec_len, vec_capacity}
use Rattle.std.specs.Prelude.{None}
use Rattle.std.specs.Vec.Iter.{into_iter_items}
use Rattle.connections.specs.Shares.{GivesShares}
use Rattle.tcp_connections.specs.Facts.{facts_of}
use Rattle.tcp_connections.proofs.tcp_listeners.give_all.Given as goal

abbrev pub invariant-loop-k : goal.invariant-loop-k
invariant-loop-k g l = record {
  gives : GivesShares None l.first l.k (map facts_of l.initial.out.items) (map facts_of l.out.items);
  left : length (into_iter_items l.left) + l.k ≡ l.shares;
  len : vec_len l.out ≡ vec_len l.initial.out + l.k;
  capacity : vec_capacity l.out ≡ vec_capacity l.initial.out;
}
