use Rattle.std.proofs.Common.{arith, ap, length}
use Rattle.batch_packets.specs.Datagram.{max_datagram_len}
use Rattle.batch_packets.specs.Filling.{Filling}
use Rattle.batch_packets.proofs.reply_text.ReplyText.put.Goals as goal

pub invariant_of-self : goal.invariant_of-self
invariant_of-self c =
    let len = c.put_reply.ensures.len in
    let limit = ap (λ (t : Filling). max_datagram_len t.version) c.self.view_is in
    let begun = ap (λ (t : Filling). length t.begun) c.self.view_is in
    (c.self.invariant.0, omega (arith, len, c.self.invariant), omega (arith, len, limit, begun, c.requires.short), omega (arith, c.put_reply.ensures.room, c.self.invariant))
