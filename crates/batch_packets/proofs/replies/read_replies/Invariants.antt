use Rattle.std.proofs.Common.{◌≡◌, ◌≤◌}
use Rattle.std.specs.Prelude.{vec_len, vec_capacity}
use Rattle.batch_packets.specs.Datagram.{SpellsItems}
use Rattle.batch_packets.specs.ReplyGrammar.{IsReply, IsInRange, SpellsReplies, reply_text}
use Rattle.batch_packets.proofs.Taking.{IsReading}
use Rattle.batch_packets.proofs.replies.read_replies.Given as goal

abbrev pub invariant-loop : goal.invariant-loop
invariant-loop l = record {
  len : vec_len l.replies ≡ l.counter;
  room : l.header.count ≤ vec_capacity l.replies;
  reading : IsReading (SpellsItems reply_text IsReply IsInRange l.header.version l.rest) (λ replies. SpellsReplies l.from (record { version = l.header.version; number = l.header.number; replies = replies })) l.header.count l.counter l.replies.items;
}
