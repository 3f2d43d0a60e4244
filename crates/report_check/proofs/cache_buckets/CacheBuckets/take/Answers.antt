use Rattle.std.proofs.Common.{rules}
use Rattle.std.proofs.Common.{◌≡◌, true, false, refl, sym, ap, ◌∙◌, arith}
use Rattle.std.proofs.lemmas.Bool.{false≢true}
use Rattle.std.specs.Vec.{with_item}
use Rattle.std.proofs.lemmas.Grind.{common_steps}
use Rattle.partition_model.specs.Cache.{Cache}
use Rattle.partition_model.specs.CacheStep.{after, reply}
use Rattle.partition_model.specs.Write.{IsWrite, is_accepted, write_of}
use Rattle.partition_model.proofs.Histories.{cache_has_room, cache_unworn}
use Rattle.report_check.specs.Machines.{bucket_part}
use Rattle.report_check.proofs.BucketSteps.{own_reply}
use Rattle.report_check.proofs.Buckets.{are_after, are_met, caught_at, part_at}
use Rattle.report_check.proofs.cache_buckets.CacheBuckets.take.Goals as goal

pub catch_up-requires : goal.catch_up-requires
catch_up-requires c =
    grind (arith, c.requires.buckets, (part_at c.args.self.now c.requires.buckets.0 c.requires.buckets.1 c.bucket_number-at.result c.index_mut-bucket.result.now c.bucket_number-at.ensures.within c.index_mut-bucket.ensures.value).rising)

pub returns-then-not-replies : goal.returns-then-not-replies
returns-then-not-replies c = λ s are replied.
    let m = c.args.self.now in
    let write = write_of c.args.op c.args.key.now c.args.value.now in
    let part = c.catch_up.ensures ∙ caught_at m s are c.bucket_number-at.result c.index_mut-bucket.result.now c.bucket_number-at.ensures.within c.index_mut-bucket.ensures.value
    ∙ ap (λ n. bucket_part m.options n s) c.bucket_number-at.ensures.value in
    false≢true (sym c.if-not-replies.true ∙ c.replies.ensures.1 (replied ∙ sym (ap (λ (b : Cache). reply m.options b write) part ∙ own_reply m.options s write)))

pub write-requires-clause-part : goal.write-requires-clause-part
write-requires-clause-part c = search (rules, caught_at, bucket_part)

pub write-requires-clause-unworn : goal.write-requires-clause-unworn
write-requires-clause-unworn c = search (rules, cache_unworn, write_of)

pub write-requires-clause-room : goal.write-requires-clause-room
write-requires-clause-room c = search (rules, cache_has_room, write_of)

pub returns-in_ok-write : goal.returns-in_ok-write
returns-in_ok-write c = λ s are.
    let m = c.args.self.now in
    let number = c.bucket_number-at.result in
    let write = write_of c.args.op c.args.key.now c.args.value.now in
    let is : IsWrite write = record {
      key = c.requires.key;
      key_bytes = λ k. omega (arith, c.type_inv.key k);
      value = c.requires.value;
      value_bytes = λ k. omega (arith, c.type_inv.value k);
    } in
    let caught = c.catch_up.ensures ∙ caught_at m s are number c.index_mut-bucket.result.now c.bucket_number-at.ensures.within c.index_mut-bucket.ensures.value in
    let part = caught ∙ ap (λ n. bucket_part m.options n s) c.bucket_number-at.ensures.value in
    let accepted : is_accepted c.args.outcome ≡ true = sym c.is_accepted.ensures ∙ c.if-is_accepted.true in
    record {
      now = after m.options s write;
      step = grind (arith, common_steps, own_reply m.options s write);
      buckets = are_after m.options m.buckets (with_item m.buckets number c.write.new.bucket) m.stamp m.accepted s are number c.write.new.bucket refl write is c.bucket_number-at.ensures.value
          (c.in_ok-write.ensures ∙ ap (λ (b : Cache). after m.options b write) caught) c.stamp-self.result c.accepted-self.result c.stamp-self.ensures c.accepted-self.ensures;
      options = refl;
    }

pub returns-else-is_accepted : goal.returns-else-is_accepted
returns-else-is_accepted c = λ s are.
    let m = c.args.self.now in
    let number = c.bucket_number-at.result in
    let write = write_of c.args.op c.args.key.now c.args.value.now in
    let caught = c.catch_up.ensures ∙ caught_at m s are number c.index_mut-bucket.result.now c.bucket_number-at.ensures.within c.index_mut-bucket.ensures.value in
    let part = caught ∙ ap (λ n. bucket_part m.options n s) c.bucket_number-at.ensures.value in
    let refused : is_accepted c.args.outcome ≡ false = sym c.is_accepted.ensures ∙ c.if-is_accepted.false in
    record {
      now = s;
      step = grind (arith, common_steps, own_reply m.options s write);
      buckets = are_met m.options m.buckets (with_item m.buckets number c.catch_up.new.bucket) m.stamp m.accepted s are number c.catch_up.new.bucket refl caught;
      options = refl;
    }
