use Rattle.std.proofs.Common.{ℕ, List, sym, ◌∙◌, subst}
use Rattle.partition_model.specs.Write.{write_of}
use Rattle.line_replies.specs.Replied.{IsWriteReply}
use Rattle.line_replies.proofs.Lines.{replied_write}
use Rattle.line_replies.proofs.line.reply_to.Goals as goal

pub returns-in-Some-clause-ok : goal.returns-in-Some-clause-ok
returns-in-Some-clause-ok g c =
    let old = g.P.Partition.owner c.args.part.now in
    let new = g.P.Partition.owner c.write.new.part in
    let line = c.args.line.now in
    let does = c.in-Some.op in
    let printed = c.write.result in
    let key = subst (λ (k : List ℕ). IsWriteReply old new (write_of does k c.bytes-given.result.now) printed) c.bytes-key.ensures c.write.ensures.reply in
    let value = subst (λ (v : List ℕ). IsWriteReply old new (write_of does line.key v) printed) c.bytes-given.ensures key in
    replied_write old new line does (sym c.write_op.ensures ∙ c.in-Some.is) printed value
