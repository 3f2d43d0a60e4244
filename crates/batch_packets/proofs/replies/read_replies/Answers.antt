use Rattle.std.proofs.Common.{refl, arith}
use Rattle.batch_packets.specs.Datagram.{SpellsItems}
use Rattle.batch_packets.specs.ReplyGrammar.{IsReply, IsInRange, reply_text, replies_kind}
use Rattle.batch_packets.proofs.ItemLaws.{no_fault_is}
use Rattle.batch_packets.proofs.ReplyLaws.{reply_at, reply_tells, replies_have_no_fault}
use Rattle.batch_packets.proofs.Taking.{is_judged, is_taken, some_left, one_read}
use Rattle.batch_packets.proofs.replies.read_replies.Goals as goal

pub returns-in_err-header-clause-only : goal.returns-in_err-header-clause-only
returns-in_err-header-clause-only c = λ replies spells. absurd (no_fault_is _ c.in_err-header.field-0.0 (replies_have_no_fault c.args.from.now replies spells) c.in_err-header.ensures.fault)

pub next_item-reply-requires : goal.next_item-reply-requires
next_item-reply-requires c κs =
    let version = c.in_ok-header.header.version in
    let left = some_left _ _ _ _ _ c.loop.invariant.reading c.loop-test.true in
    ((refl, tt), (c.in_ok-header.ensures.version, is_judged reply_text IsReply IsInRange version replies_kind reply_at (reply_tells version) c.loop.rest.now left.0 left.1 left.2))

pub loop-preserved : goal.loop-preserved
loop-preserved c =
    let version = c.in_ok-header.header.version in
    let next = c.next_item-reply in
    record {
      len = omega (arith, c.push_reserved.ensures.len, c.loop.invariant.len);
      room = omega (arith, c.push_reserved.ensures.capacity, c.loop.invariant.room);
      reading = rw (c.push_reserved.ensures.items, c.in_ok-to_reply.ensures) (one_read _ _ _ _ _ (SpellsItems reply_text IsReply IsInRange version next.result.1.now) next.result.0 c.loop.invariant.reading c.loop-test.true
          (λ reply later has. is_taken reply_text IsReply IsInRange version replies_kind reply_at (reply_tells version) c.loop.rest.now reply later has next.result.0 next.result.1.now next.ensures.lawful next.ensures.in_range next.ensures.text));
    }
