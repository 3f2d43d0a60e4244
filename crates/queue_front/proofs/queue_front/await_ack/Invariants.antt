use Rattle.queue_front.specs.QueueFront.{HasTakenMore}
use Rattle.queue_front.proofs.queue_front.await_ack.Given as goal

abbrev pub invariant-loop : goal.invariant-loop
invariant-loop g l = HasTakenMore l.initial.acks l.acks
