use Rattle.std.proofs.Common.{◌≡◌, map, take, length, vec_len}
use Rattle.mica_serve.specs.Tasks.{owner_end}
use Rattle.mica_serve.proofs.Meetings.{FrontsMetFrom}
use Rattle.mica_serve.proofs.meeting.meet_all.Given as goal

abbrev pub invariant-loop-parts : goal.invariant-loop-parts
invariant-loop-parts g l = record {
  left : l.hands.items ≡ take (length l.hands.items) l.initial.hands.items;
  met : FrontsMetFrom (length l.hands.items) (map (λ own. own.items) l.initial.hands.items)
      (map (λ t. owner_end g.P.Partition.owner g.P.Partition.home t) l.initial.owners.items) (map (λ t. owner_end g.P.Partition.owner g.P.Partition.home t) l.owners.items);
}

abbrev pub decreases-loop-parts : goal.decreases-loop-parts
decreases-loop-parts g l = vec_len l.hands
