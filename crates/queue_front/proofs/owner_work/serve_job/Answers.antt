use Rattle.std.proofs.Common.{refl, sym, ap, ◌∙◌, subst}
use Rattle.partition_model.specs.History.{stamp_of}
use Rattle.partition_words.specs.declared.state.OwnerState.{OwnerState}
use Rattle.partition_words.specs.OwnerState.{options_in}
use Rattle.partition_words.specs.OwnerStep.{IsOwnerStep}
use Rattle.queue_front.proofs.OwnerSteps.{step_acked, ack_may_follow}
use Rattle.queue_front.proofs.owner_work.serve_job.Goals as goal

pub invariant_of-ack : goal.invariant_of-ack
invariant_of-ack g c =
    let owner = g.P.Partition.owner in
    let did = c.apply_write-outcome in
    let noted = sym (c.requires.notes c.note.result).0 ∙ c.note.ensures.lent.0 in
    record { acked = ∣ step_acked (owner c.args.part.now) (owner did.new.part) c.args.job.write did.result c.stamp.result did.ensures.step c.stamp.ensures _ noted c.note.ensures.idle ∣₁ }

pub send-requires : goal.send-requires
send-requires g c =
    let owner = g.P.Partition.owner in
    let did = c.apply_write-outcome in
    let noted = sym (c.requires.notes c.note.result).0 ∙ c.note.ensures.lent.0 in
    let at_home = sym (c.requires.notes c.note.result).1 ∙ c.note.ensures.lent.1 ∙ did.ensures.home in
    ack_may_follow (owner c.args.part.now) (owner did.new.part) c.args.job.write did.result c.stamp.result did.ensures.step c.stamp.ensures (g.P.Partition.home c.args.part.now)
    c.args.acks.now _ c.requires.acks c.requires.ticket at_home noted refl refl

pub returns : goal.returns
returns g c =
    let owner = g.P.Partition.owner in
    let did = c.apply_write-outcome in
    let same = c.note.ensures.same in
    record {
      home = c.note.ensures.home ∙ did.ensures.home;
      ack = _;
      step = subst (λ (o : OwnerState). IsOwnerStep (owner c.args.part.now) o c.args.job.write did.result) (sym same) did.ensures.step;
      stamped = c.stamp.ensures ∙ ap (λ (o : OwnerState). stamp_of (options_in o) o.history) (sym same);
      ticket = refl;
      write = refl;
      sent = c.send.ensures;
    }
