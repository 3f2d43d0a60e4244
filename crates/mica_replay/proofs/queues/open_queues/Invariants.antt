use Rattle.mica_replay.proofs.QueueSteps.{QueuesTo}
use Rattle.mica_replay.proofs.queues.open_queues.Given as goal

abbrev pub invariant-loop-p : goal.invariant-loop-p
invariant-loop-p g l = QueuesTo l.counts l.p l.initial.owners.items l.owners.items l.senders.items
