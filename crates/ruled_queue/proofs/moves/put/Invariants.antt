use Rattle.std.proofs.Common.{◌≡◌}
use Rattle.crossbeam_channel.specs.Claims.{IsSeatAt}
use Rattle.crossbeam_channel.specs.Ends.{sends_on}
use Rattle.ruled_queue.specs.Ends.{known}
use Rattle.ruled_queue.proofs.moves.put.Given as goal

abbrev pub invariant-loop : goal.invariant-loop
invariant-loop g l = IsSeatAt (sends_on l.end) l.pass × (known l.pass ≡ known l.initial.pass) × (l.message ≡ l.initial.message)

abbrev pub invariant-loop-yielded : goal.invariant-loop-yielded
invariant-loop-yielded g l = IsSeatAt (sends_on l.end) l.pass × (known l.pass ≡ known l.initial.pass) × (l.message ≡ l.initial.message)
