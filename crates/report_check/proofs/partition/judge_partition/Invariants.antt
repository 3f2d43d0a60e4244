use Rattle.std.proofs.Common.{ℕ, ◌≤◌, drop, length}
use Rattle.report_check.specs.Shared.{AreLinesOf}
use Rattle.report_check.proofs.Partitions.{StandsBetween}
use Rattle.report_check.proofs.partition.judge_partition.Given as goal

abbrev pub invariant-loop-round : goal.invariant-loop-round
invariant-loop-round l = record {
  within : l.first ≤ length l.lines;
  stands : (p : ℕ) → AreLinesOf l.options p l.trace 0 (length l.trace) l.lines
      → StandsBetween l.options p l.trace l.report (drop l.round l.ends) (drop l.first l.lines) l.machine l.missed;
}
