use Rattle.std.proofs.Common.{◌≡◌, ℕ, ◌+◌}
use Rattle.mica_words.specs.Hash.{bucket_of}
use Rattle.partition_words.specs.Shape.{IsMain}
use Rattle.optimistic_get.proofs.Repeating.{Failing}
use Rattle.optimistic_get.proofs.getting.get_hashed.Given as goal

abbrev pub invariant-loop-try : goal.invariant-loop-try
invariant-loop-try g l = record {
  failed : ℕ;
  number : failed + 1 ≡ l._try;
  failing : Failing (g.R.ReaderWords.reader l.initial.seat) l.bucket failed (g.R.ReaderWords.reader l.seat);
  main : IsMain (g.R.ReaderWords.reader l.initial.seat).shape l.bucket;
  bucket : l.bucket ≡ bucket_of (g.R.ReaderWords.reader l.initial.seat).shape.hashing l.key (g.R.ReaderWords.reader l.initial.seat).shape.buckets;
  home : g.R.ReaderWords.home l.seat ≡ g.R.ReaderWords.home l.initial.seat;
}
