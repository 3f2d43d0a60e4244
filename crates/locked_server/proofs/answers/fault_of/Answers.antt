use Rattle.std.proofs.Common.{◌≡◌, ◌+◌, ◌<◌, Bool, length, get_or, sym, ap, ◌∙◌, subst, arith, Some}
use Rattle.std.specs.Prelude.{Ok, Err}
use Rattle.std.proofs.lemmas.Option.{slice_get-get_or}
use Rattle.fronts.specs.declared.totals.ServeFault.TheVariants.{Net}
use Rattle.locked_server.proofs.Faults.{FaultTo, none_seen, no_fault_more, fault_more, fault_in, no_fault}
use Rattle.locked_server.proofs.answers.fault_of.Goals as goal
use Rattle.locked_server.proofs.answers.fault_of.Goals.{in-Ok, in-Err-Net}

pub loop-answer-init : goal.loop-answer-init
loop-answer-init c = none_seen c.args.streams.now

pub loop-answer-preserved : goal.loop-answer-preserved
loop-answer-preserved c =
    let k = c.loop-answer.answer-index in
    let streams = c.args.streams.now in
    let less : k < length streams = omega (arith, c.loop-answer-test.true) in
    elim c.match-answer.branch [
      | in-Ok w ↦
          subst (λ (b : Bool). FaultTo (k + 1) streams b) (sym w.failed-is)
          (no_fault_more k streams c.loop-answer.failed w.in-Ok.field-0 c.loop-answer.invariant (slice_get-get_or streams k (Ok tt) less ∙ ap Some w.in-Ok.is))
      | in-Err-Net w ↦
          let is : get_or streams k (Ok tt) ≡ Err w.in-Err-Net.field-0 = w.in-Err-Net.is in
          let here : get_or streams k (Ok tt) ≡ Err Net = is ∙ ap Err (rw is at w.in-Err-Net.field-0-is) in
          subst (λ (b : Bool). FaultTo (k + 1) streams b) (sym w.failed-is)
          (fault_more k streams c.loop-answer.failed c.loop-answer.invariant (slice_get-get_or streams k (Ok tt) less ∙ ap Some here))
    ]

pub returns-then-failed : goal.returns-then-failed
returns-then-failed c =
    fault_in c.loop-answer.answer-index c.args.streams.now (omega (arith, c.loop-answer-test.false, c.loop-answer.auto.answer-index-end))
    (subst (FaultTo c.loop-answer.answer-index c.args.streams.now) c.if-failed.true c.loop-answer.invariant)

pub returns-else-failed : goal.returns-else-failed
returns-else-failed c =
    no_fault c.loop-answer.answer-index c.args.streams.now (omega (arith, c.loop-answer-test.false, c.loop-answer.auto.answer-index-end))
    (subst (FaultTo c.loop-answer.answer-index c.args.streams.now) c.if-failed.false c.loop-answer.invariant)
