use Rattle.std.proofs.Common.{◌≡◌, take}
use Rattle.batch_packets.specs.Filling.{HasReplies}
use Rattle.batch_packets.proofs.replies.write_replies.Given as goal

abbrev pub invariant-loop-reply : goal.invariant-loop-reply
invariant-loop-reply l = record {
  version : l.text.version ≡ l.version;
  number : l.text.number ≡ l.number;
  has : HasReplies l.text (take l.reply-index l.replies);
}
