use Rattle.std.proofs.Common.{rules}
use Rattle.ruled_queue.proofs.Keeps.{begins, first_fork}
use Rattle.exclusive_replay.proofs.queue.make.Goals as goal

pub bounded_with-requires-clause-rule : goal.bounded_with-requires-clause-rule
bounded_with-requires-clause-rule g c = begins _ _ _

pub another-seat-requires-clause-rule : goal.another-seat-requires-clause-rule
another-seat-requires-clause-rule g c = first_fork _ _ 0 _ _ _ (search rules)
