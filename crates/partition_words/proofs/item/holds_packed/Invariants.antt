use Rattle.partition_words.proofs.Vocabulary.{item_in, packed, slice_index, ℕ, ◌+◌, ◌<◌, ◌≡◌}
use Rattle.partition_words.proofs.item.holds_packed.Given as goal

abbrev pub invariant-loop-i : goal.invariant-loop-i
invariant-loop-i g l = record {
  owner : g.W.OwnerWords.owner l.words ≡ g.W.OwnerWords.owner l.initial.words;
  home : g.W.OwnerWords.home l.words ≡ g.W.OwnerWords.home l.initial.words;
  same : (k : ℕ) → k < l.i → item_in (g.W.OwnerWords.owner l.initial.words) (l.offset + k) ≡ slice_index (packed l.bytes) k;
}
