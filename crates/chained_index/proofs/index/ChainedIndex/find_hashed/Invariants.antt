use Rattle.chained_index.proofs.Words.{SLOTS, ◌≡◌, ◌+◌, ◌*◌, ◌<◌, Kept}
use Rattle.chained_index.proofs.Walking.{HasWalkedTo, NoneBefore}
use Rattle.chained_index.proofs.index.ChainedIndex.find_hashed.Given as goal

abbrev pub invariant-loop-link : goal.invariant-loop-link
invariant-loop-link g l = record {
  owner : g.W.OwnerWords.owner l.words ≡ g.W.OwnerWords.owner l.fn.words;
  home : g.W.OwnerWords.home l.words ≡ g.W.OwnerWords.home l.fn.words;
  kept : 0 < l._link → Kept (g.W.OwnerWords.owner l.fn.words);
  walk : HasWalkedTo (g.W.OwnerWords.owner l.fn.words) l.bucket l._link l.at;
  none : NoneBefore (g.W.OwnerWords.owner l.fn.words) l.bucket l.key (SLOTS * l._link);
}

abbrev pub invariant-loop-slot : goal.invariant-loop-slot
invariant-loop-slot g l = record {
  owner : g.W.OwnerWords.owner l.words ≡ g.W.OwnerWords.owner l.fn.words;
  home : g.W.OwnerWords.home l.words ≡ g.W.OwnerWords.home l.fn.words;
  kept : 0 < l.slot → Kept (g.W.OwnerWords.owner l.fn.words);
  none : NoneBefore (g.W.OwnerWords.owner l.fn.words) l.bucket l.key (SLOTS * l._link + l.slot);
}
