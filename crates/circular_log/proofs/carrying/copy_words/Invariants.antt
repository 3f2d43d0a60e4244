use Rattle.std.proofs.Common.{◌≡◌, ℕ, ◌+◌, ◌≤◌, ◌<◌, drop}
use Rattle.partition_words.specs.Events.{CanPlay, plays, puts_from}
use Rattle.partition_words.specs.Kept.{Kept}
use Rattle.partition_words.specs.OwnerState.{item_in}
use Rattle.circular_log.specs.LogItem.{words_from}
use Rattle.circular_log.proofs.carrying.copy_words.Given as goal

-- what is left to store may be stored, and leads to the end; what is left to load is as it was
abbrev pub invariant-loop-i : goal.invariant-loop-i
invariant-loop-i g l = let o = g.W.OwnerWords.owner l.initial.words in record {
  allowed : CanPlay (puts_from (l.to + l.i) (drop l.i (words_from o l.from l.count))) (g.W.OwnerWords.owner l.words);
  leads : plays (puts_from (l.to + l.i) (drop l.i (words_from o l.from l.count))) (g.W.OwnerWords.owner l.words)
      ≡ plays (puts_from l.to (words_from o l.from l.count)) o;
  shape : (g.W.OwnerWords.owner l.words).shape ≡ o.shape;
  rest : (j : ℕ) → l.i ≤ j → j < l.count → item_in (g.W.OwnerWords.owner l.words) (l.from + j) ≡ item_in o (l.from + j);
  kept : Kept (g.W.OwnerWords.owner l.words);
  home : g.W.OwnerWords.home l.words ≡ g.W.OwnerWords.home l.initial.words;
}
