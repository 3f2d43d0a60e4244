use Rattle.std.proofs.Common.{◌≡◌, length}
use Rattle.std.specs.Vec.Iter.{into_iter_items}
use Rattle.mica_client.specs.Answers.{after_replies}
use Rattle.mica_client.proofs.answers.take_replies.Given as goal

abbrev pub invariant-loop-reply : goal.invariant-loop-reply
invariant-loop-reply l = record {
  len : length l.answers ≡ length l.fn.answers;
  rest : after_replies l.batch l.number (into_iter_items l.reply-iterator) l.answers ≡ after_replies l.batch l.number l.fn.replies l.fn.answers;
}
