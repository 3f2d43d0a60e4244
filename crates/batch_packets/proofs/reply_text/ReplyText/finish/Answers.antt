use Rattle.std.proofs.Common.{ap, arith, length}
use Rattle.batch_packets.specs.Datagram.{max_datagram_len}
use Rattle.batch_packets.specs.Filling.{Filling}
use Rattle.batch_packets.proofs.Filling.{ends_begun, ends_closed}
use Rattle.batch_packets.proofs.reply_text.ReplyText.finish.Goals as goal
use Rattle.batch_packets.proofs.reply_text.ReplyText.finish.Goals.{then-count-gt0+in_ok-push, else-count-gt0}

pub returns : goal.returns
returns c = λ replies has.
    let closed = ap (λ (t : Filling). t.closed) c.self.view_is in
    let begun = ap (λ (t : Filling). t.begun) c.self.view_is in
    let limit = ap (λ (t : Filling). max_datagram_len t.version) c.self.view_is in
    elim c.if-count-gt0.branch [
      | then-count-gt0+in_ok-push w ↦ rw (w.closed-is, w.in_ok-push.ensures.items, w.from.ensures, closed, begun) (ends_begun c.args.self replies (omega (arith, c.count-count.ensures, w.if-count-gt0.true)) (omega (arith, c.count-count.ensures)) (omega (arith, limit, ap length begun, c.self.invariant)) has)
      | else-count-gt0 w ↦ rw (w.closed-is, closed) (ends_closed c.args.self replies (omega (arith, c.count-count.ensures, w.if-count-gt0.false)) has)
    ]
