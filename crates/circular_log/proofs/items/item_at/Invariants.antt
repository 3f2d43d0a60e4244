use Rattle.std.proofs.Common.{◌≡◌, ◌≤◌, ◌*◌}
use Rattle.mica_words.specs.declared.item.TheConstants.{MAX_STORED_LEN}
use Rattle.partition_words.specs.Kept.{Kept}
use Rattle.circular_log.proofs.LoadedValue.{bytes_from}
use Rattle.circular_log.proofs.items.item_at.Given as goal

abbrev pub invariant-loop-at : goal.invariant-loop-at
invariant-loop-at g l = let o = g.W.OwnerWords.owner l.fn.words in record {
  owner : g.W.OwnerWords.owner l.words ≡ o;
  home : g.W.OwnerWords.home l.words ≡ g.W.OwnerWords.home l.fn.words;
  kept : Kept (g.W.OwnerWords.owner l.words);
  few : l.len ≤ MAX_STORED_LEN;
  bytes : l.out ≡ bytes_from o l.value_at (8 * l.at);
}

abbrev pub invariant-loop-i : goal.invariant-loop-i
invariant-loop-i g l = let o = g.W.OwnerWords.owner l.fn.words in record {
  owner : g.W.OwnerWords.owner l.words ≡ o;
  home : g.W.OwnerWords.home l.words ≡ g.W.OwnerWords.home l.fn.words;
  kept : Kept (g.W.OwnerWords.owner l.words);
  few : l.len ≤ MAX_STORED_LEN;
  bytes : l.out ≡ bytes_from o l.value_at l.i;
}
