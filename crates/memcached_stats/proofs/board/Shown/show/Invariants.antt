use Rattle.std.proofs.Common.{◌≡◌}
use Rattle.memcached_stats.proofs.board.Shown.show.Given as goal

abbrev pub invariant-loop : goal.invariant-loop
invariant-loop l = l.tally ≡ l.initial.tally
