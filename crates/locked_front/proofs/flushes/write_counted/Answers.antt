use Rattle.std.proofs.Common.{ap, sym, ◌∙◌, subst}
use Rattle.partition_model.specs.Write.{write_of}
use Rattle.fronts.specs.declared.flushes.KeptFlushes.{KeptFlushes}
use Rattle.fronts.specs.Flushes.{AreKept, kept_then}
use Rattle.locked_front.proofs.Turning.{kept_accepted}
use Rattle.locked_front.proofs.flushes.write_counted.Goals as goal

pub returns-then-is_accepted-clause-kept : goal.returns-then-is_accepted-clause-kept
returns-then-is_accepted-clause-kept g c =
    let owner = g.P.Partition.owner in
    let new = owner c.write_to-outcome.new.part in
    let write = write_of c.args.op c.args.key.now c.args.value.now in
    let kept = c.args.kept.now in
    subst (λ (k : KeptFlushes). AreKept new.shape.hashing new.shape.buckets new.history k) (sym (c.and_then.ensures c.args.value.now ∙ ap (λ n. kept_then n write kept) c.accepted.ensures))
    (kept_accepted (owner c.args.part.now) new write c.write_to-outcome.result c.write_to-outcome.ensures.step kept c.requires.kept (sym c.is_accepted.ensures ∙ c.if-is_accepted.true))
