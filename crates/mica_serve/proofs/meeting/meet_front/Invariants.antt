use Rattle.std.proofs.Common.{◌≡◌, map, take, length, vec_len}
use Rattle.mica_serve.specs.Tasks.{owner_end}
use Rattle.mica_serve.proofs.Meetings.{PartsMetFrom}
use Rattle.mica_serve.proofs.meeting.meet_front.Given as goal

abbrev pub invariant-loop-part : goal.invariant-loop-part
invariant-loop-part g l = record {
  left : l.parts.items ≡ take (length l.parts.items) l.initial.parts.items;
  met : PartsMetFrom (length l.parts.items) l.initial.parts.items
      (map (λ t. owner_end g.P.Partition.owner g.P.Partition.home t) l.initial.owners.items) (map (λ t. owner_end g.P.Partition.owner g.P.Partition.home t) l.owners.items);
}

abbrev pub decreases-loop-part : goal.decreases-loop-part
decreases-loop-part g l = vec_len l.parts
