use Rattle.std.proofs.Common.{◌≡◌}
use Rattle.row_parts.proofs.net.net_of.Given as goal

abbrev pub invariant-loop-at : goal.invariant-loop-at
invariant-loop-at l = l.net.binds ≡ 0
