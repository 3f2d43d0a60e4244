use Rattle.std.proofs.Common.{◌-◌, length}
use Rattle.partition_model.specs.History.{State}
use Rattle.report_check.specs.Machines.{IsAt}
use Rattle.report_check.specs.Settling.{HasJudged}
use Rattle.report_check.proofs.settling.judge.Given as goal

abbrev pub invariant-loop-next : goal.invariant-loop-next
invariant-loop-next l = (state : State) → IsAt state l.machine → HasJudged state l.trace l.report l.asked l.fn.settling (record { next = l.next; missed = l.missed })

abbrev pub decreases-loop-next : goal.decreases-loop-next
decreases-loop-next l = length l.asked - l.next
