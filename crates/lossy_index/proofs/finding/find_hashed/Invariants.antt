use Rattle.std.proofs.Common.{◌≡◌, ℕ, ◌<◌}
use Rattle.partition_words.specs.Kept.{Kept}
use Rattle.lossy_index.specs.Slot.{IsSlotOf}
use Rattle.lossy_index.proofs.Looking.{Seeks}
use Rattle.lossy_index.proofs.finding.find_hashed.Given as goal

abbrev pub invariant-loop-slot : goal.invariant-loop-slot
invariant-loop-slot g l = let o = g.W.OwnerWords.owner l.initial.words in record {
  owner : g.W.OwnerWords.owner l.words ≡ o;
  home : g.W.OwnerWords.home l.words ≡ g.W.OwnerWords.home l.initial.words;
  kept : Kept (g.W.OwnerWords.owner l.words);
  seeks : Seeks o l.key l.tag l.tail l.log_words;
  none : (slot : ℕ) → slot < l.slot → ¬ (IsSlotOf o l.bucket l.key slot);
}
