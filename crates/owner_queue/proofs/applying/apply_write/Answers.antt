use Rattle.std.proofs.Common.{◌≡◌, ◌∙◌, subst}
use Rattle.partition_model.specs.declared.write.Write.{Write}
use Rattle.partition_model.specs.Write.{write_of}
use Rattle.partition_words.specs.OwnerStep.{IsOwnerStep}
use Rattle.owner_queue.proofs.applying.apply_write.Goals as goal

pub returns-clause-step : goal.returns-clause-step
returns-clause-step g c =
    let given = c.write.inside in
    let same : write_of given.op c.bytes.result.now c.bytes-2.result.now ≡ c.args.write.now
    = (λ i. record { op = given.op; key = c.bytes.ensures i; value = c.bytes-2.ensures i }) ∙ c.write.view_is in
    subst (λ (w : Write). IsOwnerStep (g.P.Partition.owner c.args.part.now) (g.P.Partition.owner c.write_to.new.part) w c.write_to.result) same c.write_to.ensures.step
