use Rattle.std.proofs.Common.{◌≡◌}
use Rattle.mica_words.specs.Packing.{packed}
use Rattle.optimistic_get.specs.Loading.{GoesOn}
use Rattle.optimistic_get.proofs.Loads.{HasFirst}
use Rattle.optimistic_get.proofs.looking.holds_packed.Given as goal

-- the words before were found
abbrev pub invariant-loop-i : goal.invariant-loop-i
invariant-loop-i g l = record {
  on : GoesOn (g.R.ReaderWords.reader l.initial.seat) l.i (g.R.ReaderWords.reader l.seat);
  first : HasFirst (g.R.ReaderWords.reader l.seat) l.offset (packed l.bytes) l.i;
  home : g.R.ReaderWords.home l.seat ≡ g.R.ReaderWords.home l.initial.seat;
  plan : g.R.ReaderWords.plan l.seat ≡ g.R.ReaderWords.plan l.initial.seat;
}
