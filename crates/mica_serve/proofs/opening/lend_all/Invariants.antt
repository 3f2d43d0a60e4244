use Rattle.std.proofs.Common.{map}
use Rattle.std.specs.Vec.Iter.{into_iter_items}
use Rattle.mica_serve.specs.Tasks.{owner_end}
use Rattle.mica_serve.proofs.Opened.{LendsSome}
use Rattle.mica_serve.proofs.opening.lend_all.Given as goal

abbrev pub invariant-loop-sender : goal.invariant-loop-sender
invariant-loop-sender g l =
    LendsSome (owner_end g.P.Partition.owner g.P.Partition.home l.initial.owner) (owner_end g.P.Partition.owner g.P.Partition.home l.owner) l.at
    (into_iter_items l.sender-iterator) (map (λ own. own.items) l.initial.hands.items) (map (λ own. own.items) l.hands.items)
