use Rattle.std.proofs.Common.{◌≡◌}
use Rattle.partition_walk.specs.Listed.{Adds, HasItemBelow}
use Rattle.partition_walk.proofs.listing.list_bucket.Given as goal

abbrev pub invariant-loop-slot : goal.invariant-loop-slot
invariant-loop-slot g l = let o = g.W.OwnerWords.owner l.fn.words in record {
  owner : g.W.OwnerWords.owner l.words ≡ o;
  home : g.W.OwnerWords.home l.words ≡ g.W.OwnerWords.home l.fn.words;
  listed : Adds (HasItemBelow o l.slot l.bucket) l.fn.offsets.items l.offsets.items;
}
