use Rattle.chained_index.proofs.Words.{◌≡◌, ◌≢◌, ℕ, ◌<◌, entry_in, Kept}
use Rattle.chained_index.proofs.index.used_slots.Given as goal

abbrev pub invariant-loop-slot : goal.invariant-loop-slot
invariant-loop-slot g l = record {
  owner : g.W.OwnerWords.owner l.words ≡ g.W.OwnerWords.owner l.initial.words;
  home : g.W.OwnerWords.home l.words ≡ g.W.OwnerWords.home l.initial.words;
  kept : 0 < l.slot → Kept (g.W.OwnerWords.owner l.words);
  used : (slot : ℕ) → slot < l.slot → entry_in (g.W.OwnerWords.owner l.words) l.bucket slot ≢ 0;
}
