use Rattle.std.proofs.Common.{◌≡◌, ◌+◌, ◌-◌, true, map, vec_len, vec_capacity}
use Rattle.std.specs.Prelude.{Some}
use Rattle.connections.specs.Shares.{GivesShares, are_awaited, without_shares}
use Rattle.memory_connections.specs.MemoryPorts.{AreNew, facts_of, logs_at, seating_in}
use Rattle.memory_connections.proofs.memory_listeners.give_all.Given as goal

abbrev pub invariant-loop-k : goal.invariant-loop-k
invariant-loop-k l = record {
  gives : GivesShares (Some (logs_at (seating_in l.initial.waiting.seats.items))) l.first l.k (map facts_of l.initial.out.items) (map facts_of l.out.items);
  taken : logs_at (seating_in l.waiting.seats.items) ≡ without_shares l.first l.k (logs_at (seating_in l.initial.waiting.seats.items));
  unused : AreNew (seating_in l.waiting.seats.items);
  fewer : l.waiting.taken + l.k ≡ l.initial.waiting.taken;
  len : vec_len l.out ≡ vec_len l.initial.out + l.k;
  capacity : vec_capacity l.out ≡ vec_capacity l.initial.out;
  awaited : are_awaited (l.first + l.k) (l.shares - l.k) (logs_at (seating_in l.initial.waiting.seats.items)) ≡ true;
}
