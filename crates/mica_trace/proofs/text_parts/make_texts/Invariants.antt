use Rattle.std.proofs.Common.{◌≡◌, ◌≤◌, length, vec_len, vec_capacity}
use Rattle.mica_trace.proofs.text_parts.make_texts.Given as goal

abbrev pub invariant-loop : goal.invariant-loop
invariant-loop g l = record {
  many : length l.texts.items ≡ l.counter;
  len : vec_len l.texts ≡ l.counter;
  room : l.parts ≤ vec_capacity l.texts;
}
