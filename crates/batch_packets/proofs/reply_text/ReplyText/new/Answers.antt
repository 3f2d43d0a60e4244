use Rattle.std.proofs.Common.{arith}
use Rattle.batch_packets.proofs.ItemLaws.{header_within}
use Rattle.batch_packets.proofs.reply_text.ReplyText.new.Goals as goal

pub invariant_of-result : goal.invariant_of-result
invariant_of-result c =
    let len = c.in_ok-begin.ensures.len in
    (c.requires, omega (arith, len), omega (arith, len, header_within c.args.version), c.in_ok-begin.ensures.room)
