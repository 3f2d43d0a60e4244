use Rattle.std.proofs.Common.{◌≡◌, ℕ, Some, None, refl, sym, ap, ◌∙◌}
use Rattle.mica_words.specs.Hash.{hash_bucket, bucket_of}
use Rattle.mica_words.proofs.Hashes.{bucket_of_hash}
use Rattle.partition_model.specs.declared.write.Answer.TheVariants.{Hit, Miss}
use Rattle.partition_words.specs.declared.shape.Shape.{Shape}
use Rattle.scripted_reader.specs.Seat.{book_of}
use Rattle.optimistic_get.specs.Gets.{is_again}
use Rattle.optimistic_get.proofs.Resting.{never_again, answers_played}
use Rattle.optimistic_get.proofs.settled.get_settled.Goals as goal

pub try_get-requires-clause-bucket : goal.try_get-requires-clause-bucket
try_get-requires-clause-bucket c =
    let key = c.args.key.now in
    let shape = c.shape-shape.result in
    c.bucket_of-bucket.ensures ∙ (ap (λ (z : ℕ). hash_bucket z shape.buckets) c.key_hash-hash.ensures ∙ sym (bucket_of_hash shape.hashing key shape.buckets))
    ∙ ap (λ (z : Shape). bucket_of z.hashing key z.buckets) c.shape-shape.ensures.same

pub unreachable-requires : goal.unreachable-requires
unreachable-requires c = cc (
    sym (ap is_again c.in-Again.is) ∙ never_again c.args.seat.now c.try_get.new.seat c.requires.settled c.try_get.result c.try_get.ensures.planned
    )

pub returns-in-Hit-clause-played : goal.returns-in-Hit-clause-played
returns-in-Hit-clause-played c =
    let plan : (book_of c.try_get.new.seat).plan ≡ (book_of c.args.seat.now).plan = let same = c.try_get.ensures.plan in cc in
    answers_played c.args.seat.now c.try_get.new.seat c.requires.settled c.try_get.result c.try_get.ensures.planned plan
    c.args.key.now c.try_get.new.out (Some c.try_get.new.out) c.in-Hit.stamp Hit refl c.in-Hit.ensures.tries

pub returns-in-Miss-clause-played : goal.returns-in-Miss-clause-played
returns-in-Miss-clause-played c =
    let plan : (book_of c.try_get.new.seat).plan ≡ (book_of c.args.seat.now).plan = let same = c.try_get.ensures.plan in cc in
    let tries = c.in-Miss.ensures.tries in
    answers_played c.args.seat.now c.try_get.new.seat c.requires.settled c.try_get.result c.try_get.ensures.planned plan
    c.args.key.now c.try_get.new.out None c.in-Miss.stamp Miss (refl, tries.1) tries.0
