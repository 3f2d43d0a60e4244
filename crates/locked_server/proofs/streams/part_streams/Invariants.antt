use Rattle.std.proofs.Common.{◌≡◌, ◌≤◌, length, map, vec_len, vec_capacity}
use Rattle.locked_server.specs.Streams.{counted_by_all}
use Rattle.locked_server.proofs.streams.part_streams.Given as goal

abbrev pub invariant-loop-stream : goal.invariant-loop-stream
invariant-loop-stream g l = record {
  shares : l.shares.items ≡ map (λ t. t.share) l.yielded;
  hands : l.hands.items ≡ map (λ t. t.parts) l.yielded;
  answers : l.answers.items ≡ map (λ t. t.answer) l.yielded;
  lacked : l.lacked ≡ counted_by_all (map (λ t. t.lacked) l.yielded);
  shares_len : vec_len l.shares ≡ length l.yielded;
  hands_len : vec_len l.hands ≡ length l.yielded;
  answers_len : vec_len l.answers ≡ length l.yielded;
  shares_room : vec_len l.fn.streams ≤ vec_capacity l.shares;
  hands_room : vec_len l.fn.streams ≤ vec_capacity l.hands;
  answers_room : vec_len l.fn.streams ≤ vec_capacity l.answers;
}
