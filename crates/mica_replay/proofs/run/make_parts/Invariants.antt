use Rattle.std.proofs.Common.{◌≡◌, ◌≤◌, length, vec_len, vec_capacity}
use Rattle.mica_replay.proofs.run.make_parts.Given as goal

abbrev pub invariant-loop : goal.invariant-loop
invariant-loop g l = record {
  many : length l.parts.items ≡ l.counter;
  len : vec_len l.parts ≡ l.counter;
  room : l.threads ≤ vec_capacity l.parts;
}
