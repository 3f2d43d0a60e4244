use Rattle.std.proofs.Common.{◌≡◌, ◌<◌, ◌^◌}
use Rattle.std.specs.Prelude.{None, IfSome}
use Rattle.optimistic_get.specs.Search.{Scans}
use Rattle.optimistic_get.proofs.searching.last_in.Given as goal

abbrev pub invariant-loop-slot : goal.invariant-loop-slot
invariant-loop-slot g l = record {
  scans : Scans (g.R.ReaderWords.reader l.initial.seat) l.bucket l.slot l.wanted.key.now None l.initial.out l.best l.out (g.R.ReaderWords.reader l.seat);
  low : IfSome l.best (λ p. p < 2 ^ 48);
  home : g.R.ReaderWords.home l.seat ≡ g.R.ReaderWords.home l.initial.seat;
  plan : g.R.ReaderWords.plan l.seat ≡ g.R.ReaderWords.plan l.initial.seat;
}
