use Rattle.std.proofs.Common.{subst}
use Rattle.exclusive_replay.specs.Sent.{MayFollow}
use Rattle.exclusive_replay.specs.LineEnds.{LineBox}
use Rattle.ruled_queue.specs.Ends.{known}
use Rattle.exclusive_replay.proofs.OneSender.{follows_all}
use Rattle.exclusive_replay.proofs.queue.LineReceiver.recv.Goals as goal

pub returns-clause-order : goal.returns-clause-order
returns-clause-order g c =
    subst (λ (y : LineBox). MayFollow y.lines y.list c.take.result) c.self.view_is
    (follows_all (known c.self.inside.pass).terms (known c.self.inside.pass).taken c.take.result c.take.ensures.order)
