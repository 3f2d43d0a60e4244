use Rattle.queue_front.proofs.OwnerSteps.{IsServing}
use Rattle.queue_front.proofs.owner_work.serve_owner.Given as goal

-- what was done of the jobs taken until now
abbrev pub invariant-loop : goal.invariant-loop
invariant-loop g l =
    let home = g.P.Partition.home in
    let owner = g.P.Partition.owner in
    IsServing (home l.initial.part) (home l.part) (owner l.initial.part) (owner l.part) l.initial.jobs l.jobs l.initial.acks.items l.acks.items
