use Rattle.std.proofs.Common.{◌≡◌}
use Rattle.owner_queue.specs.JobEnds.{inbox}
use Rattle.core_tests.proofs.jobs.take_jobs.Given as goal

abbrev pub invariant-loop : goal.invariant-loop
invariant-loop g l = l.receiver ≡ inbox l.initial.receiver.queue 2 100 l.receiver.taken
