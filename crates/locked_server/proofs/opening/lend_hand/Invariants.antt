use Rattle.std.proofs.Common.{map}
use Rattle.locked_server.specs.Opening.{filled_view}
use Rattle.locked_server.proofs.Lending.{Lending}
use Rattle.locked_server.proofs.opening.lend_hand.Given as goal

abbrev pub invariant-loop-p : goal.invariant-loop-p
invariant-loop-p g l =
    Lending g.J.ServerPlan.plan l.front l.p (map (λ f. filled_view g.P.Partition.owner g.P.Partition.home f) l.initial.parts.items)
    (map (λ f. filled_view g.P.Partition.owner g.P.Partition.home f) l.parts.items) l.hand.items
