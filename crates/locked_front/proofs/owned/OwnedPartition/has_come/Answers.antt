use Rattle.std.proofs.Common.{subst}
use Rattle.std.proofs.lemmas.Bool.{leb-true}
use Rattle.locked_front.specs.Owned.{Owned, owned_as, HasCome}
use Rattle.locked_front.proofs.Turning.{come_now}
use Rattle.locked_front.proofs.owned.OwnedPartition.has_come.Goals as goal

pub returns : goal.returns
returns g c on =
    let plan = g.J.ServerPlan.plan in
    let was : Owned = owned_as c.self.inside.number (g.P.Partition.home c.self.inside.part) (g.P.Partition.owner c.self.inside.part) c.self.inside.book in
    subst (λ (o : Owned). HasCome plan c.args.least o) c.self.view_is
    (come_now plan was c.args.least c.stamp.result c.self.invariant.0 c.stamp.ensures (leb-true _ _ on))
