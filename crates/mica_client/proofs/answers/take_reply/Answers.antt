use Rattle.std.proofs.Common.{arith, ◌≡◌, Some, List, ap, sym, ◌∙◌}
use Rattle.batch_packets.specs.declared.batch.Request.{Request}
use Rattle.mica_client.specs.Answers.{want_at}
use Rattle.mica_client.proofs.Taking.{ticket_in}
use Rattle.mica_client.proofs.answers.take_reply.Goals as goal

pub overflow_sub-ticket : goal.overflow_sub-ticket
overflow_sub-ticket c =
    let found : want_at c.args.batch.now.requests c.args.reply.ticket ≡ Some c.in-Some.want =
    ap (λ (rs : List Request). want_at rs c.args.reply.ticket) (sym c.requests.ensures) ∙ sym c.want_at.ensures ∙ c.in-Some.is in
    (ticket_in _ _ _ _ c.requires found).0

pub set-requires : goal.set-requires
set-requires c =
    let found : want_at c.args.batch.now.requests c.args.reply.ticket ≡ Some c.in-Some.want =
    ap (λ (rs : List Request). want_at rs c.args.reply.ticket) (sym c.requests.ensures) ∙ sym c.want_at.ensures ∙ c.in-Some.is in
    let within = ticket_in _ _ _ _ c.requires found in
    omega (arith, within.0, within.1)
