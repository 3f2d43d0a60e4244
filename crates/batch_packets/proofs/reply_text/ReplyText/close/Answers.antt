use Rattle.std.proofs.Common.{arith}
use Rattle.batch_packets.proofs.ItemLaws.{header_within}
use Rattle.batch_packets.proofs.reply_text.ReplyText.close.Goals as goal

pub invariant_of-self-2 : goal.invariant_of-self-2
invariant_of-self-2 c =
    rw c.replace-full.ensures.after (c.self.invariant.0, omega (arith, c.in_ok-next.ensures.len), omega (arith, c.in_ok-next.ensures.len, header_within c.self.inside.version), c.in_ok-next.ensures.room)
