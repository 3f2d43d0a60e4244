use Rattle.ruled_queue.proofs.Keeps.{begins, fork_rule}
use Rattle.owner_queue.proofs.jobs.make.Goals as goal

pub bounded_with-requires-clause-rule : goal.bounded_with-requires-clause-rule
bounded_with-requires-clause-rule g c = begins _ _ _

pub another-seat-requires-clause-rule : goal.another-seat-requires-clause-rule
another-seat-requires-clause-rule g c = let i = c.loop-made.invariant in fork_rule _ _ _ _ c.loop-made._made _ i.takes i.sends i.number i.jobs
