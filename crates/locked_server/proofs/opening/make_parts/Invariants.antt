use Rattle.std.proofs.Common.{◌≡◌, ◌≤◌, length, vec_len, vec_capacity}
use Rattle.locked_server.proofs.opening.make_parts.Given as goal

abbrev pub invariant-loop : goal.invariant-loop
invariant-loop g l = record {
  many : length l.made.items ≡ l.counter;
  len : vec_len l.made ≡ l.counter;
  room : l.count ≤ vec_capacity l.made;
}
