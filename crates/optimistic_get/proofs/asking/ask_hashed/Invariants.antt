use Rattle.std.proofs.Common.{◌≡◌}
use Rattle.optimistic_get.specs.Asked.{SeatAnswers}
use Rattle.optimistic_get.proofs.asking.ask_hashed.Given as goal

abbrev pub invariant-loop : goal.invariant-loop
invariant-loop g l = record {
  none : SeatAnswers (g.R.ReaderWords.reader l.initial.seat) (g.R.ReaderWords.reader l.seat) 0;
  home : g.R.ReaderWords.home l.seat ≡ g.R.ReaderWords.home l.initial.seat;
}
