use Rattle.std.proofs.Common.{map}
use Rattle.std.specs.Vec.Iter.{into_iter_items}
use Rattle.mica_replay.specs.Lending.{owner_part}
use Rattle.mica_replay.specs.RoundRun.{replies_of}
use Rattle.mica_replay.proofs.RoundPrints.{HasPrinted}
use Rattle.mica_replay.proofs.merging.print_round.Given as goal

abbrev pub invariant-loop-number : goal.invariant-loop-number
invariant-loop-number g l =
    HasPrinted l.options l.first l.lines (map replies_of (map (λ w. owner_part g.P.Partition.owner g.P.Partition.home w) l.owners)) (map (λ it. into_iter_items it) l.initial.found) l.initial.report
    l.number l.report l.replied.items (map (λ it. into_iter_items it) l.found) l.gets
