use Rattle.std.proofs.Common.{◌≡◌, []}
use Rattle.partition_walk.specs.Listed.{Adds}
use Rattle.partition_walk.proofs.Added.{HasItemUpTo}
use Rattle.partition_walk.proofs.listing.list_chains.Given as goal

abbrev pub invariant-loop-bucket : goal.invariant-loop-bucket
invariant-loop-bucket g l = let o = g.W.OwnerWords.owner l.fn.words in record {
  owner : g.W.OwnerWords.owner l.words ≡ o;
  home : g.W.OwnerWords.home l.words ≡ g.W.OwnerWords.home l.fn.words;
  listed : Adds (HasItemUpTo o l.bucket) [] l.offsets.items;
}
