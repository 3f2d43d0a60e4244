use Rattle.chained_index.proofs.Words.{◌≡◌}
use Rattle.chained_index.proofs.Walking.{HasWalkedTo, IsBehind}
use Rattle.chained_index.proofs.index.ChainedIndex.last_two.Given as goal

abbrev pub invariant-loop-link : goal.invariant-loop-link
invariant-loop-link g l = record {
  owner : g.W.OwnerWords.owner l.words ≡ g.W.OwnerWords.owner l.initial.words;
  home : g.W.OwnerWords.home l.words ≡ g.W.OwnerWords.home l.initial.words;
  walk : HasWalkedTo (g.W.OwnerWords.owner l.initial.words) l.bucket l._link l.at;
  behind : IsBehind (g.W.OwnerWords.owner l.initial.words) l.bucket l._link l.before;
}
