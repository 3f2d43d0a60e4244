use Rattle.std.proofs.Common.{◌≡◌, map}
use Rattle.list_laws.proofs.UpTo.{UpTo}
use Rattle.mica_replay.specs.Lending.{owner_part}
use Rattle.mica_replay.specs.RoundRun.{ReaderPart, reader_part}
use Rattle.mica_replay.proofs.RoundSteps.{IsLent, HasLeft, HaveMetTo}
use Rattle.partition_table.specs.Seats.{reader_state, reader_home}
use Rattle.mica_replay.proofs.round.run_round.Given as goal

abbrev pub invariant-loop-q : goal.invariant-loop-q
invariant-loop-q g l = record {
  same : map (λ w. owner_part g.P.Partition.owner g.P.Partition.home w) l.owners.items ≡ map (λ w. owner_part g.P.Partition.owner g.P.Partition.home w) l.initial.owners.items;
  lent : UpTo (IsLent (map (λ w. owner_part g.P.Partition.owner g.P.Partition.home w) l.initial.owners.items)) l.q
      (map (λ r. reader_part reader_state reader_home r) l.initial.readers.items)
      (map (λ r. reader_part reader_state reader_home r) l.readers.items);
}

abbrev pub invariant-loop-q-2 : goal.invariant-loop-q-2
invariant-loop-q-2 g l = record {
  met : HaveMetTo l.q (map (λ (t : ReaderPart). t.seats) (map (λ r. reader_part reader_state reader_home r) l.initial.readers.items))
      (map (λ w. owner_part g.P.Partition.owner g.P.Partition.home w) l.initial.owners.items) (map (λ w. owner_part g.P.Partition.owner g.P.Partition.home w) l.owners.items);
  left : UpTo HasLeft l.q
      (map (λ r. reader_part reader_state reader_home r) l.initial.readers.items)
      (map (λ r. reader_part reader_state reader_home r) l.readers.items);
}
