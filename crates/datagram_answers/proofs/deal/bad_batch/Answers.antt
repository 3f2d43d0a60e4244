use Rattle.std.proofs.Common.{◌∷◌, [], ap, ◌∙◌}
use Rattle.std.proofs.lemmas.Result.{IfOk-weaker}
use Rattle.batch_packets.specs.declared.status.Status.TheVariants.{BadBatch}
use Rattle.batch_packets.specs.ReplyGrammar.{replies_text}
use Rattle.datagram_answers.proofs.Replying.{one_datagram}
use Rattle.datagram_answers.proofs.deal.bad_batch.Goals as goal

pub returns : goal.returns
returns c =
    IfOk-weaker c.write_replies.result _ _
    (λ datagrams split. one_datagram 1 0 _ datagrams.items split
    ∙ ap (λ v. replies_text (record { version = 1; number = 0; replies = record { status = BadBatch; ticket = 0; stamp = 0; value = v } ∷ [] }) ∷ []) c.empty.ensures)
    c.write_replies.ensures
