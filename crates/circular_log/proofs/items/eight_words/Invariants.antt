use Rattle.std.proofs.Common.{◌≡◌, length, take}
use Rattle.partition_words.specs.Kept.{Kept}
use Rattle.circular_log.specs.LogItem.{words_from}
use Rattle.circular_log.proofs.items.eight_words.Given as goal

abbrev pub invariant-loop-i : goal.invariant-loop-i
invariant-loop-i g l = let o = g.W.OwnerWords.owner l.initial.words in record {
  owner : g.W.OwnerWords.owner l.words ≡ o;
  home : g.W.OwnerWords.home l.words ≡ g.W.OwnerWords.home l.initial.words;
  kept : Kept (g.W.OwnerWords.owner l.words);
  eight : length l.block ≡ 8;
  words : take l.i l.block ≡ words_from o l.offset l.i;
}
