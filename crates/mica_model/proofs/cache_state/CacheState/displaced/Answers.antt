use Rattle.std.proofs.Common.{◌≡◌, ap, sym, ◌∙◌}
use Rattle.mica_words.specs.Hash.{bucket_of, hash_bucket}
use Rattle.partition_model.specs.Cache.{Cache}
use Rattle.mica_model.specs.CacheFields.{displaced_at}
use Rattle.mica_model.proofs.CacheSteps.{displaced_not_full, displaced_full}
use Rattle.mica_model.proofs.cache_state.CacheState.displaced.Goals as goal

pub returns-then-count_in_bucket : goal.returns-then-count_in_bucket
unfolding bucket_of
returns-then-count_in_bucket c =
    let options = c.args.options.now in
    let bucket : c.bucket_of-bucket.result ≡ bucket_of options.hashing c.args.key.now options.buckets = c.bucket_of-bucket.ensures ∙ ap (λ h. hash_bucket h options.buckets) c.key_hash.ensures in
    let count = rw c.deref.ensures.value at c.count_in_bucket.ensures in
    displaced_not_full options c.args.key.now c.self.inside.records.items c.bucket_of-bucket.result bucket (λ full. c.if-count_in_bucket.true (count ∙ full))
    ∙ ap (λ (s : Cache). displaced_at options c.args.key.now s.records) c.self.view_is

pub returns : goal.returns
unfolding bucket_of
returns c =
    let options = c.args.options.now in
    let bucket : c.bucket_of-bucket.result ≡ bucket_of options.hashing c.args.key.now options.buckets = c.bucket_of-bucket.ensures ∙ ap (λ h. hash_bucket h options.buckets) c.key_hash.ensures in
    let count = rw c.deref.ensures.value at c.count_in_bucket.ensures in
    rw c.deref-2.ensures.value at c.first_in_bucket.ensures
    ∙ displaced_full options c.args.key.now c.self.inside.records.items c.bucket_of-bucket.result bucket (sym count ∙ c.if-count_in_bucket.false)
    ∙ ap (λ (s : Cache). displaced_at options c.args.key.now s.records) c.self.view_is
