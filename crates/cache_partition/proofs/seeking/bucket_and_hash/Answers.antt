use Rattle.cache_partition.proofs.Words.{Shape, ap, bucket_of_hash, hash_of, hash_bucket, sym, ℕ, ◌∙◌}
use Rattle.cache_partition.proofs.seeking.bucket_and_hash.Goals as goal

pub returns-clause-bucket : goal.returns-clause-bucket
returns-clause-bucket g c =
    let o = g.W.OwnerWords.owner c.args.words.now in
    c.bucket_of.ensures
    ∙ (ap (λ (h : ℕ). hash_bucket h c.shape-shape.result.buckets) c.key_hash-hash.ensures
    ∙ (ap (λ (z : Shape). hash_bucket (hash_of z.hashing c.args.key.now) z.buckets) c.shape-shape.ensures.same ∙ sym (bucket_of_hash o.shape.hashing c.args.key.now o.shape.buckets)))
