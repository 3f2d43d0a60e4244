use Rattle.std.proofs.Common.{◌≡◌, map, take}
use Rattle.mica_replay.specs.Lending.{owner_part, lent_part, table_in}
use Rattle.mica_replay.proofs.lending.lend_all.Given as goal

abbrev pub invariant-loop-p : goal.invariant-loop-p
invariant-loop-p g l = record {
  seats : map (λ s. g.P.Reader.ReaderWords.reader s) l.seats.items ≡ take l.p (map lent_part (map (λ w. owner_part g.P.Partition.owner g.P.Partition.home w) l.initial.owners.items));
  homes : map (λ s. g.P.Reader.ReaderWords.home s) l.seats.items ≡ take l.p (map table_in (map (λ w. owner_part g.P.Partition.owner g.P.Partition.home w) l.initial.owners.items));
  same : map (λ w. owner_part g.P.Partition.owner g.P.Partition.home w) l.owners.items ≡ map (λ w. owner_part g.P.Partition.owner g.P.Partition.home w) l.initial.owners.items;
}
