use Rattle.std.proofs.Common.{sym, subst, arith}
use Rattle.std.proofs.lemmas.Grind.{common_steps}
use Rattle.mica_words.specs.Stamp.{tail_of}
use Rattle.partition_model.specs.Cache.{Cache}
use Rattle.partition_model.specs.Records.{AreRising}
use Rattle.partition_model.specs.CacheStep.{after_write, without_passed}
use Rattle.partition_model.specs.Write.{IsWrite, write_of}
use Rattle.partition_model.proofs.CacheKept.{IsRecord, after_write_is}
use Rattle.mica_model.proofs.CacheSteps.{displaced_goes}
use Rattle.partition_model.proofs.Found.{all_weaker}
use Rattle.mica_model.proofs.Passed.{laid_rising}
use Rattle.report_check.proofs.Buckets.{after_is, bucket_kept}
use Rattle.report_check.proofs.cache_buckets.write.Goals as goal

pub write-requires-clause-unique : goal.write-requires-clause-unique
write-requires-clause-unique c = let part = c.requires.part in (bucket_kept c.args.options.now part.0 c.args.bucket.now _ part.1 part.2).unique

pub write-requires-clause-values : goal.write-requires-clause-values
write-requires-clause-values c =
    grind (arith, common_steps, all_weaker IsRecord, bucket_kept c.args.options.now c.requires.part.0 c.args.bucket.now _ c.requires.part.1 c.requires.part.2)

pub drop_passed-requires : goal.drop_passed-requires
drop_passed-requires c =
    let options = c.args.options.now in
    let s = c.args.bucket.now in
    let part = c.requires.part in
    let write = write_of c.args.op c.args.key.now c.args.value.now in
    let is : IsWrite write = record {
      key = c.requires.key;
      key_bytes = λ k. omega (arith, c.type_inv.key k);
      value = c.requires.value;
      value_bytes = λ k. omega (arith, c.type_inv.value k);
    } in
    let wrote = after_write options s write in
    subst (λ (t : Cache). AreRising t.records) (sym c.in_ok-write.ensures.ok)
    (laid_rising 0 (tail_of wrote.stamp) wrote.records (after_write_is options s (bucket_kept options part.0 s _ part.1 part.2) write is).laid)

pub returns : goal.returns
returns c =
    grind (arith, after_is c.args.options.now c.args.bucket.now (write_of c.args.op c.args.key.now c.args.value.now) c.write.new.self c.remove.new.self c.in_ok-write.ensures.ok, displaced_goes c.args.options.now c.args.key.now (without_passed c.args.options.now c.write.new.self).records)
