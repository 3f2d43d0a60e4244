use Rattle.std.proofs.Common.{◌≡◌, map, take, drop, ◌++◌}
use Rattle.queue_front.specs.QueueFront.{ended_part}
use Rattle.queue_front.proofs.queue_front.QueueFront.end.Given as goal

abbrev pub invariant-loop-part : goal.invariant-loop-part
invariant-loop-part g l =
    l.part-items ≡ map (ended_part l.number) (take l.part-index l.initial.part-items) ++ drop l.part-index l.initial.part-items
