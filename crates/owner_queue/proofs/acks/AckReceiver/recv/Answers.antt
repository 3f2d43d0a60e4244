use Rattle.std.proofs.Common.{subst}
use Rattle.owner_queue.specs.AckOrder.{AckMayFollow}
use Rattle.owner_queue.specs.AckEnds.{AckBox}
use Rattle.ruled_queue.specs.Ends.{known}
use Rattle.owner_queue.proofs.OneSender.{follows_all}
use Rattle.owner_queue.proofs.Whole.{acked_whole}
use Rattle.owner_queue.proofs.acks.AckReceiver.recv.Goals as goal

pub returns-clause-order : goal.returns-clause-order
returns-clause-order g c =
    subst (λ (y : AckBox). AckMayFollow y.table y.shape y.list c.take.result) c.self.view_is
    (follows_all (known c.self.inside.pass).terms (known c.self.inside.pass).taken c.take.result c.take.ensures.order)

pub returns-clause-acked : goal.returns-clause-acked
returns-clause-acked g c = acked_whole _ _ _ _ c.take.result.acked
