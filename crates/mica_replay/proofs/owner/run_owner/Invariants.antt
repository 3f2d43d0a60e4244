use Rattle.std.proofs.Common.{◌≡◌}
use Rattle.mica_replay.proofs.JobRuns.{HasTakenJobs}
use Rattle.mica_replay.proofs.owner.run_owner.Given as goal

abbrev pub invariant-loop : goal.invariant-loop
invariant-loop g l = record {
  fed : HasTakenJobs (g.P.Partition.owner l.initial.part) (g.P.Partition.owner l.part) l.initial.jobs l.jobs l.initial.out l.out l.call;
  home : g.P.Partition.home l.part ≡ g.P.Partition.home l.initial.part;
}
