use Rattle.std.proofs.Common.{◌∙◌}
use Rattle.ruled_queue.proofs.Keeps.{take_rule}
use Rattle.ruled_queue.proofs.moves.take.Goals as goal

pub recv_as-requires-clause-rule : goal.recv_as-requires-clause-rule
recv_as-requires-clause-rule g c = take_rule _ _ _ _ _ (c.loop.invariant.1 ∙ c.loop-yielded.invariant.1) c.requires.view.0 c.requires.view.1

pub try_recv_as-requires-clause-rule : goal.try_recv_as-requires-clause-rule
try_recv_as-requires-clause-rule g c = take_rule _ _ _ _ _ c.loop-yielded.invariant.1 c.requires.view.0 c.requires.view.1
