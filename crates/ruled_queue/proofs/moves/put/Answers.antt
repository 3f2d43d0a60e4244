use Rattle.std.proofs.Common.{◌∙◌}
use Rattle.ruled_queue.proofs.Keeps.{send_rule}
use Rattle.ruled_queue.proofs.moves.put.Goals as goal

pub send_as-requires-clause-rule : goal.send_as-requires-clause-rule
send_as-requires-clause-rule g c = send_rule _ _ _ _ _ _ _ _ (c.loop.invariant.1 ∙ c.loop-yielded.invariant.1) (c.loop.invariant.2 ∙ c.loop-yielded.invariant.2) c.requires.view c.requires.own c.requires.order

pub try_send_as-requires-clause-rule : goal.try_send_as-requires-clause-rule
try_send_as-requires-clause-rule g c = send_rule _ _ _ _ _ _ _ _ c.loop-yielded.invariant.1 c.loop-yielded.invariant.2 c.requires.view c.requires.own c.requires.order
