use Rattle.std.proofs.Common.{◌≡◌, ℕ, length, slice_get, Some}
use Rattle.partition_model.specs.Cache.{Cache, start}
use Rattle.report_check.proofs.cache_buckets.CacheBuckets.new.Given as goal

abbrev pub invariant-loop : goal.invariant-loop
invariant-loop l = record {
  many : length l.buckets.items ≡ l.counter;
  empty : (bucket : ℕ) (held : Cache) → slice_get l.buckets.items bucket ≡ Some held → held ≡ start;
}
