use Rattle.std.proofs.Common.{◌≡◌}
use Rattle.circular_log.proofs.LoadedValue.{bytes_from}
use Rattle.partition_walk.proofs.pairs.read_bytes.Given as goal

abbrev pub invariant-loop-at : goal.invariant-loop-at
invariant-loop-at g l = let o = g.W.OwnerWords.owner l.fn.words in record {
  owner : g.W.OwnerWords.owner l.words ≡ o;
  home : g.W.OwnerWords.home l.words ≡ g.W.OwnerWords.home l.fn.words;
  bytes : l.out.items ≡ bytes_from o l.offset l.at;
}
