use Rattle.std.proofs.Common.{◌≡◌, ◌+◌, ◌<◌, ℕ, false, rules, sym, ap, ◌∙◌, subst, arith}
use Rattle.std.proofs.lemmas.Nat.{pow_pos}
use Rattle.mica_words.specs.Hash.{hash_bucket, bucket_of, hash_of}
use Rattle.mica_words.proofs.Hashes.{bucket_of_hash, bucket_of-below}
use Rattle.partition_words.specs.declared.shape.Shape.{Shape}
use Rattle.partition_words.specs.Shape.{IsMain}
use Rattle.optimistic_get.specs.Gets.{is_again, AnswersGet}
use Rattle.optimistic_get.proofs.Repeating.{failing_none, fails_again, answers_after}
use Rattle.optimistic_get.proofs.getting.get_hashed.Goals as goal

pub loop-try-init : goal.loop-try-init
loop-try-init g c =
    let r = g.R.ReaderWords.reader c.args.seat.now in
    let buckets = c.shape.ensures.valid.ranges.buckets in
    let some : 0 < c.shape.result.buckets = subst (λ (z : ℕ). 0 < z) (sym buckets.2) (pow_pos buckets.0) in
    let here : c.bucket_of-bucket.result ≡ bucket_of c.shape.result.hashing c.args.key.now c.shape.result.buckets =
    c.bucket_of-bucket.ensures ∙ (ap (λ (z : ℕ). hash_bucket z c.shape.result.buckets) (c.requires.hashed ∙ ap (λ (z : Shape). hash_of z.hashing c.args.key.now) (sym c.shape.ensures.same)) ∙ sym (bucket_of_hash c.shape.result.hashing c.args.key.now c.shape.result.buckets)) in
    let low : c.bucket_of-bucket.result < c.shape.result.buckets =
    subst (λ (z : ℕ). z < c.shape.result.buckets) (sym here) (bucket_of-below c.shape.result.hashing c.args.key.now c.shape.result.buckets (omega arith)) in record {
      failed = 0;
      number = omega arith;
      failing = failing_none r c.bucket_of-bucket.result;
      main = subst (λ (z : Shape). IsMain z c.bucket_of-bucket.result) c.shape.ensures.same low;
      bucket = here ∙ ap (λ (z : Shape). bucket_of z.hashing c.args.key.now z.buckets) c.shape.ensures.same;
      home = search rules;
    }

pub loop-try-preserved : goal.loop-try-preserved
loop-try-preserved g c =
    let reader = g.R.ReaderWords.reader in
    let loop = c.loop-try.invariant in record {
      failed = loop.failed + 1;
      number = ap (λ (z : ℕ). z + 1) loop.number;
      failing = fails_again (reader c.args.seat.now) (reader c.loop-try.seat) (reader c.try_get-got.new.seat) c.bucket_of-bucket.result loop.failed c.args.key.now c.try_get-got.new.out c.try_get-got.result
          loop.failing (sym c.is_again.ensures ∙ c.if-not-is_again.false) c.try_get-got.ensures.tries;
      main = loop.main;
      bucket = loop.bucket;
      home = search rules;
    }

pub returns-then-not-is_again-clause-answers : goal.returns-then-not-is_again-clause-answers
returns-then-not-is_again-clause-answers g c =
    let reader = g.R.ReaderWords.reader in
    let loop = c.loop-try.invariant in
    let r = reader c.args.seat.now in
    let few : loop.failed < c.args.tries = omega (arith, loop.number, c.loop-try-test.true) in
    let answered : is_again c.try_get-got.result ≡ false = sym c.is_again.ensures ∙ c.if-not-is_again.true in
    subst (λ (z : ℕ). AnswersGet r z c.args.tries c.args.key.now c.try_get-got.result c.try_get-got.new.out (reader c.try_get-got.new.seat)) loop.bucket
    (answers_after r (reader c.loop-try.seat) (reader c.try_get-got.new.seat) c.bucket_of-bucket.result loop.failed c.args.tries c.args.key.now c.try_get-got.new.out c.try_get-got.result
    loop.failing few (λ again. absurd (cc (sym again ∙ answered))) c.try_get-got.ensures.tries)

pub returns-clause-answers : goal.returns-clause-answers
returns-clause-answers g c =
    let reader = g.R.ReaderWords.reader in
    let loop = c.loop-try.invariant in
    let r = reader c.args.seat.now in
    let last : loop.failed + 1 ≡ c.args.tries = omega (arith, loop.number, c.loop-try-test.false, c.loop-try.auto._try-end c.requires.tries) in
    subst (λ (z : ℕ). AnswersGet r z c.args.tries c.args.key.now c.try_get.result c.try_get.new.out (reader c.try_get.new.seat)) loop.bucket
    (answers_after r (reader c.loop-try.seat) (reader c.try_get.new.seat) c.bucket_of-bucket.result loop.failed c.args.tries c.args.key.now c.try_get.new.out c.try_get.result
    loop.failing (omega arith) (λ _. last) c.try_get.ensures.tries)
