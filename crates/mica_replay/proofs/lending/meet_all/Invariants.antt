use Rattle.std.proofs.Common.{◌≡◌, map, take, length, vec_len}
use Rattle.mica_replay.specs.Lending.{owner_part}
use Rattle.mica_replay.proofs.SeatMeets.{MetFrom}
use Rattle.mica_replay.proofs.lending.meet_all.Given as goal

abbrev pub invariant-loop-seat : goal.invariant-loop-seat
invariant-loop-seat g l = record {
  front : l.seats.items ≡ take (length l.seats.items) l.initial.seats.items;
  met : MetFrom (length l.seats.items) (map (λ s. g.P.Reader.ReaderWords.reader s) l.initial.seats.items)
      (map (λ w. owner_part g.P.Partition.owner g.P.Partition.home w) l.initial.owners.items) (map (λ w. owner_part g.P.Partition.owner g.P.Partition.home w) l.owners.items);
}

abbrev pub decreases-loop-seat : goal.decreases-loop-seat
decreases-loop-seat g l = vec_len l.seats
