use Rattle.std.proofs.Common.{◌≤◌, ◌-◌}
use Rattle.command_answers.proofs.ahead.load_ahead.Given as goal

abbrev pub invariant-loop-many : goal.invariant-loop-many
invariant-loop-many g l = l.many ≤ 255

abbrev pub decreases-loop-many : goal.decreases-loop-many
decreases-loop-many g l = 255 - l.many
