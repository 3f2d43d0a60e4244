use Rattle.std.proofs.Common.{◌≡◌, ℕ, ◌<◌}
use Rattle.lossy_index.specs.Slot.{IsEmpty}
use Rattle.lossy_index.proofs.Choosing.{IsFirstPassed, HasLeast}
use Rattle.lossy_index.proofs.placing.slot_that_gives_way.Given as goal

abbrev pub invariant-loop-slot : goal.invariant-loop-slot
invariant-loop-slot g l = let o = g.W.OwnerWords.owner l.initial.words in record {
  owner : g.W.OwnerWords.owner l.words ≡ o;
  home : g.W.OwnerWords.home l.words ≡ g.W.OwnerWords.home l.initial.words;
  used : (slot : ℕ) → slot < l.slot → ¬ (IsEmpty o l.bucket slot);
  passed : IsFirstPassed o l.bucket l.slot l.passed;
  start : l.slot ≡ 0 → l.least ≡ 18446744073709551615;
  least : 0 < l.slot → HasLeast o l.bucket l.slot l.oldest l.least;
}
