use Rattle.std.proofs.Common.{◌≡◌, ◌≤◌, ◌-◌, map, length, take}
use Rattle.mica_trace.specs.RoundReport.{EndsRound, gets_in}
use Rattle.mica_replay.specs.Crew.{IsCrew}
use Rattle.mica_replay.specs.Lending.{owner_part}
use Rattle.mica_replay.specs.RoundRun.{reader_part, state_of_owner, AreFree}
use Rattle.mica_replay.specs.Between.{IsReplaying}
use Rattle.partition_table.specs.Seats.{reader_state, reader_home}
use Rattle.mica_replay.proofs.rounds.run_rounds.Given as goal

abbrev pub invariant-loop-sync : goal.invariant-loop-sync
invariant-loop-sync g l = record {
  below : l.from ≤ length l.trace;
  gets : l.gets ≡ gets_in (take l.from l.trace);
  ended : EndsRound (take l.from l.trace);
  so_far : IsReplaying l.options (take l.from l.trace) l.report (map state_of_owner (map (λ w. owner_part g.P.Partition.owner g.P.Partition.home w) l.owners.items));
  crew : IsCrew l.options.partitions l.options.readers l.trace l.options l.crew;
  same : l.crew ≡ l.initial.crew;
  readers : AreFree l.options (map (λ r. reader_part reader_state reader_home r) l.readers.items);
}

abbrev pub decreases-loop-sync : goal.decreases-loop-sync
decreases-loop-sync g l = length l.trace - l.from
