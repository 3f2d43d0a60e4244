use Rattle.std.proofs.Common.{◌≡◌, ◌+◌, ◌<◌, ℕ, Bool, true, false, length, get_or, sym, ap, ◌∙◌, subst, arith}
use Rattle.std.specs.Prelude.{Ok, Err}
use Rattle.fronts.specs.declared.totals.Totals.{Totals}
use Rattle.fronts.specs.declared.totals.ServeFault.TheVariants.{Net}
use Rattle.fronts.specs.Totals.{none_counted}
use Rattle.served.proofs.SumsUp.{SumsTo, answer_at, sums_none, sums_one, sums_failed, sums_all, sums_fault}
use Rattle.served.proofs.answers.sum_up.Goals as goal
use Rattle.served.proofs.answers.sum_up.Goals.{in-Ok, in-Err-Net}

pub loop-answer-init : goal.loop-answer-init
loop-answer-init c = subst (λ (t : Totals). SumsTo 0 c.args.answers.now false t) (sym c.none-totals.ensures) (sums_none c.args.answers.now)

pub add-requires : goal.add-requires
add-requires c =
    let k = c.loop-answer.answer-index in
    let less : k < length c.args.answers.now = omega (arith, c.loop-answer-test.true) in
    let small = c.requires.small k c.in-Ok.one (answer_at c.args.answers.now k (Ok c.in-Ok.one) c.in-Ok.is less) in
    record {
      batches = omega (arith, c.loop-answer.invariant.batches, small.datagrams, c.requires.few, less);
      requests = omega (arith, c.loop-answer.invariant.requests, small.requests, c.requires.few, less);
      bad = omega (arith, c.loop-answer.invariant.refused, small.refused, c.requires.few, less);
    }

pub loop-answer-preserved : goal.loop-answer-preserved
loop-answer-preserved c =
    let k = c.loop-answer.answer-index in
    let answers = c.args.answers.now in
    let less : k < length answers = omega (arith, c.loop-answer-test.true) in
    let s = c.loop-answer.invariant in
    elim c.match-answer.branch [
      | in-Ok w ↦
          let here = answer_at answers k (Ok w.in-Ok.one) w.in-Ok.is less in
          subst (λ (b : Bool). SumsTo (k + 1) answers b c.match-answer.totals) (sym w.failed-is)
          (subst (λ (t : Totals). SumsTo (k + 1) answers c.loop-answer.failed t) (sym (w.totals-is ∙ w.add.ensures))
          (sums_one k answers c.loop-answer.failed c.loop-answer.totals w.in-Ok.one s here (c.requires.small k w.in-Ok.one here)))
      | in-Err-Net w ↦
          let is : get_or answers k (Ok none_counted) ≡ Err w.in-Err-Net.field-0 = w.in-Err-Net.is in
          let here : get_or answers k (Ok none_counted) ≡ Err Net = is ∙ ap Err (rw is at w.in-Err-Net.field-0-is) in
          subst (λ (b : Bool). SumsTo (k + 1) answers b c.match-answer.totals) (sym w.failed-is)
          (subst (λ (t : Totals). SumsTo (k + 1) answers true t) (sym w.totals-is)
          (sums_failed k answers c.loop-answer.failed c.loop-answer.totals s (answer_at answers k (Err Net) here less)))
    ]

pub returns-then-failed : goal.returns-then-failed
returns-then-failed c =
    let answers = c.args.answers.now in
    let whole : c.loop-answer.answer-index ≡ length answers = omega (arith, c.loop-answer-test.false, c.loop-answer.auto.answer-index-end) in
    sums_fault answers c.loop-answer.totals
    (subst (λ (b : Bool). SumsTo (length answers) answers b c.loop-answer.totals) c.if-failed.true (subst (λ (n : ℕ). SumsTo n answers c.loop-answer.failed c.loop-answer.totals) whole c.loop-answer.invariant))

pub returns-else-failed : goal.returns-else-failed
returns-else-failed c =
    let answers = c.args.answers.now in
    let whole : c.loop-answer.answer-index ≡ length answers = omega (arith, c.loop-answer-test.false, c.loop-answer.auto.answer-index-end) in
    sums_all answers c.loop-answer.totals
    (subst (λ (b : Bool). SumsTo (length answers) answers b c.loop-answer.totals) c.if-failed.false (subst (λ (n : ℕ). SumsTo n answers c.loop-answer.failed c.loop-answer.totals) whole c.loop-answer.invariant))
