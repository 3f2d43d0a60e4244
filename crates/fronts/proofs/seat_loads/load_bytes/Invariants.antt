use Rattle.std.proofs.Common.{◌≡◌, ◌*◌, length}
use Rattle.fronts.proofs.seat_loads.load_bytes.Given as goal

abbrev pub invariant-loop-at : goal.invariant-loop-at
invariant-loop-at l = length l.out ≡ 8 * l.at
