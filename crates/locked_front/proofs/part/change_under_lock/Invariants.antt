use Rattle.std.proofs.Common.{◌≡◌}
use Rattle.locked_front.proofs.part.change_under_lock.Given as goal

abbrev pub invariant-loop : goal.invariant-loop
invariant-loop g l = l.taker ≡ l.initial.taker
