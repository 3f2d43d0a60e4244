use Rattle.std.proofs.Common.{◌∙◌}
use Rattle.batch_packets.specs.declared.replies.Reply.{Reply}
use Rattle.batch_packets.proofs.Filling.{ready_here, ready_next}
use Rattle.batch_packets.proofs.reply_text.ReplyText.add.Goals as goal
use Rattle.batch_packets.proofs.reply_text.ReplyText.add.Goals.{then-not-has_room+in_ok-close, else-not-has_room}

pub put-requires-clause-few : goal.put-requires-clause-few
put-requires-clause-few c =
    let e = c.has_room.ensures in
    let reply : Reply = record { status = c.args.status; ticket = c.args.ticket; stamp = c.args.stamp; value = c.args.value.now } in
    elim c.if-not-has_room.branch [
      | then-not-has_room+in_ok-close w ↦ (ready_next (w.self-is ∙ w.in_ok-close.ensures.closed) c.requires (record { few = e.few; short = e.short; full = e.full w.if-not-has_room.true })).room.few
      | else-not-has_room w ↦ (ready_here {reply = reply} w.self-is (record { few = (e.room w.if-not-has_room.false).0; short = (e.room w.if-not-has_room.false).1 })).room.few
    ]

pub put-requires-clause-short : goal.put-requires-clause-short
put-requires-clause-short c =
    let e = c.has_room.ensures in
    let reply : Reply = record { status = c.args.status; ticket = c.args.ticket; stamp = c.args.stamp; value = c.args.value.now } in
    elim c.if-not-has_room.branch [
      | then-not-has_room+in_ok-close w ↦ (ready_next (w.self-is ∙ w.in_ok-close.ensures.closed) c.requires (record { few = e.few; short = e.short; full = e.full w.if-not-has_room.true })).room.short
      | else-not-has_room w ↦ (ready_here {reply = reply} w.self-is (record { few = (e.room w.if-not-has_room.false).0; short = (e.room w.if-not-has_room.false).1 })).room.short
    ]

pub returns-clause-added : goal.returns-clause-added
returns-clause-added c =
    let e = c.has_room.ensures in
    let reply : Reply = record { status = c.args.status; ticket = c.args.ticket; stamp = c.args.stamp; value = c.args.value.now } in
    rw c.put.ensures (elim c.if-not-has_room.branch [
      | then-not-has_room+in_ok-close w ↦ (ready_next (w.self-is ∙ w.in_ok-close.ensures.closed) c.requires (record { few = e.few; short = e.short; full = e.full w.if-not-has_room.true })).adds
      | else-not-has_room w ↦ (ready_here {reply = reply} w.self-is (record { few = (e.room w.if-not-has_room.false).0; short = (e.room w.if-not-has_room.false).1 })).adds
    ])
