use Rattle.std.proofs.Common.{◌≡◌, ◌<◌, ◌^◌}
use Rattle.std.specs.Prelude.{IfSome}
use Rattle.partition_words.specs.Shape.{IsBucket}
use Rattle.optimistic_get.proofs.Chains.{Walks}
use Rattle.optimistic_get.proofs.searching.search_chain.Given as goal

abbrev pub invariant-loop-link : goal.invariant-loop-link
invariant-loop-link g l = record {
  walks : Walks (g.R.ReaderWords.reader l.fn.seat) l.bucket l._link l.at l.wanted.key.now l.found l.out (g.R.ReaderWords.reader l.seat);
  at : IsBucket (g.R.ReaderWords.reader l.fn.seat).shape l.at;
  low : IfSome l.found (λ p. p < 2 ^ 48);
  home : g.R.ReaderWords.home l.seat ≡ g.R.ReaderWords.home l.fn.seat;
  plan : g.R.ReaderWords.plan l.seat ≡ g.R.ReaderWords.plan l.fn.seat;
}
