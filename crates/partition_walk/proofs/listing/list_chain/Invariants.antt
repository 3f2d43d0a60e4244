use Rattle.std.proofs.Common.{◌≡◌}
use Rattle.partition_walk.proofs.Added.{HasCome}
use Rattle.partition_walk.proofs.listing.list_chain.Given as goal

abbrev pub invariant-loop-link : goal.invariant-loop-link
invariant-loop-link g l = let o = g.W.OwnerWords.owner l.fn.words in record {
  owner : g.W.OwnerWords.owner l.words ≡ o;
  home : g.W.OwnerWords.home l.words ≡ g.W.OwnerWords.home l.fn.words;
  come : HasCome o l.bucket l.fn.offsets.items l._link l.at l.offsets.items;
}
