use Rattle.std.proofs.Common.{◌≡◌, ◌+◌, ap, sym, ◌∙◌, arith}
use Rattle.partition_model.specs.Write.{write_of}
use Rattle.fronts.specs.Flushes.{flushes_then, kept_then}
use Rattle.fronts.proofs.FlushLaws.{in_another, in_bucket_0, kept_other, kept_first}
use Rattle.fronts.proofs.flushes.KeptFlushes.and_then.Goals as goal
use Rattle.fronts.proofs.flushes.KeptFlushes.and_then.Goals.{then-is_flush, else-is_flush}

pub returns-then-bucket_of-ne0 : goal.returns-then-bucket_of-ne0
returns-then-bucket_of-ne0 c value =
    let kept = c.args.self.now in
    kept_other c.args.count (write_of c.args.op c.args.key.now value) kept
    (in_another kept.hashing c.args.key.now kept.buckets c.args.hash c.bucket_of.result c.requires.hashed c.bucket_of.ensures (omega (arith, c.if-bucket_of-ne0.true)))

pub returns : goal.returns
returns c value =
    let kept = c.args.self.now in
    let write = write_of c.args.op c.args.key.now value in
    let first = in_bucket_0 kept.hashing c.args.key.now kept.buckets c.args.hash c.bucket_of.result c.requires.hashed c.bucket_of.ensures (omega (arith, c.if-bucket_of-ne0.false)) in
    elim c.if-is_flush.branch as (λ _. record kept { in_first = kept.in_first + 1; flushes = c.if-is_flush.flushes } ≡ kept_then c.args.count write kept) [
      | then-is_flush w ↦
          kept_first c.args.count write kept c.if-is_flush.flushes _ first (sym c.is_flush.ensures ∙ w.if-is_flush.true)
          (w.flushes-is ∙ w.and_then-flushes.ensures ∙ ap (λ f. flushes_then c.args.count f kept.flushes) w.flush_in.ensures)
      | else-is_flush w ↦ kept_first c.args.count write kept c.if-is_flush.flushes _ first (sym c.is_flush.ensures ∙ w.if-is_flush.false) w.flushes-is
    ]
