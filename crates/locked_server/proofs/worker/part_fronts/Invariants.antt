use Rattle.std.proofs.Common.{◌≡◌, ◌≤◌, length, map, vec_len, vec_capacity}
use Rattle.locked_server.proofs.worker.part_fronts.Given as goal

abbrev pub invariant-loop-front : goal.invariant-loop-front
invariant-loop-front g l = record {
  ends : l.ends.items ≡ map (λ t. t.end) l.yielded;
  hands : l.hands.items ≡ map (λ t. t.parts) l.yielded;
  answers : l.answers.items ≡ map (λ t. t.answer) l.yielded;
  ends_len : vec_len l.ends ≡ length l.yielded;
  hands_len : vec_len l.hands ≡ length l.yielded;
  answers_len : vec_len l.answers ≡ length l.yielded;
  ends_room : vec_len l.fn.fronts ≤ vec_capacity l.ends;
  hands_room : vec_len l.fn.fronts ≤ vec_capacity l.hands;
  answers_room : vec_len l.fn.fronts ≤ vec_capacity l.answers;
}
