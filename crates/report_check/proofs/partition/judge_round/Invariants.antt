use Rattle.std.proofs.Common.{ℕ, drop}
use Rattle.partition_model.specs.declared.options.Options.{Options}
use Rattle.report_check.specs.Judged.{IsBeforeRound}
use Rattle.report_check.proofs.Stepping.{GoesOn}
use Rattle.report_check.proofs.partition.judge_round.Given as goal

abbrev pub invariant-loop-at : goal.invariant-loop-at
invariant-loop-at l = (options : Options) (p from to : ℕ) → IsBeforeRound options p l.trace l.report from to l.lines l.fn.machine
    → GoesOn options p l.trace l.report from to (drop l.at l.lines) l.asked.items l.machine l.settling
