use Rattle.std.proofs.Common.{rules}
use Rattle.std.proofs.Common.{◌≡◌, ◌+◌, ◌≤◌, get_or, slice_get, Some, sym, ◌∙◌, subst, arith, Option, ℕ}
use Rattle.std.proofs.lemmas.Bool.{false≢true}
use Rattle.std.proofs.lemmas.Option.{slice_get-get_or}
use Rattle.partition_model.specs.History.{stamp_in}
use Rattle.report_check.specs.declared.asked.Asked.{Asked}
use Rattle.report_check.specs.Settling.{HasJudged}
use Rattle.report_check.proofs.Judging.{judged_none, judged_right, judged_wrong, ahead_of, none_ahead}
use Rattle.report_check.proofs.settling.judge.Goals as goal
use Rattle.report_check.proofs.settling.judge.Goals.{then-not-answers_at, else-not-answers_at}

abbrev none : Asked
none = record { stamp = 0; place = 0 }

pub loop-next-init : goal.loop-next-init
loop-next-init c = λ state at. judged_none state c.args.trace.now c.args.report.now c.args.asked.now c.args.settling c.requires.high

pub loop-next-preserved : goal.loop-next-preserved
loop-next-preserved c = λ state at.
    let asked = c.args.asked.now in
    let n = c.loop-next.next in
    let a : Asked = get_or asked n none in
    let is : slice_get asked n ≡ Some a = slice_get-get_or asked n none (omega (arith, c.loop-next-test.true)) in
    let stamp : a.stamp ≤ stamp_in state = omega (arith, c.if-asked-next.true, c.stamp-stamp.ensures state at) in
    elim c.if-not-answers_at.branch [
      | then-not-answers_at w ↦
          subst (λ (m : Option ℕ). HasJudged state c.args.trace.now c.args.report.now asked c.args.settling (record { next = n + 1; missed = m })) (sym (w.missed-is ∙ w.earlier-missed.ensures))
          (judged_wrong state c.args.trace.now c.args.report.now asked c.args.settling (record { next = n; missed = c.loop-next.missed }) a (c.loop-next.invariant state at) is stamp
          (λ answers. false≢true (sym w.if-not-answers_at.true ∙ (c.answers_at.ensures state at).1 answers)))
      | else-not-answers_at w ↦
          subst (λ (m : Option ℕ). HasJudged state c.args.trace.now c.args.report.now asked c.args.settling (record { next = n + 1; missed = m })) (sym w.missed-is)
          (judged_right state c.args.trace.now c.args.report.now asked c.args.settling (record { next = n; missed = c.loop-next.missed }) a (c.loop-next.invariant state at) is stamp
          ((c.answers_at.ensures state at).0 w.if-not-answers_at.false))
    ]

pub returns-else-asked-next-clause-ahead : goal.returns-else-asked-next-clause-ahead
returns-else-asked-next-clause-ahead c = search (rules, get_or, slice_get-get_or, ahead_of)

pub returns-after-loop-next-clause-ahead : goal.returns-after-loop-next-clause-ahead
returns-after-loop-next-clause-ahead c = λ state at. none_ahead state c.args.trace.now c.args.report.now c.args.asked.now c.loop-next.next (omega (arith, c.loop-next-test.false))
