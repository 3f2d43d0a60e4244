use Rattle.partition_words.proofs.Vocabulary.{CanPlay, Kept, drop, packed, plays, puts_from, ◌+◌, ◌≡◌}
use Rattle.partition_words.proofs.item.put_packed.Given as goal

-- what is left to store may be stored, and leads to the end
abbrev pub invariant-loop-i : goal.invariant-loop-i
invariant-loop-i g l = record {
  allowed : CanPlay (puts_from (l.offset + l.i) (drop l.i (packed l.bytes))) (g.W.OwnerWords.owner l.words);
  leads : plays (puts_from (l.offset + l.i) (drop l.i (packed l.bytes))) (g.W.OwnerWords.owner l.words)
      ≡ plays (puts_from l.offset (packed l.bytes)) (g.W.OwnerWords.owner l.initial.words);
  kept : Kept (g.W.OwnerWords.owner l.words);
  home : g.W.OwnerWords.home l.words ≡ g.W.OwnerWords.home l.initial.words;
}
