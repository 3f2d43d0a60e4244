use Rattle.std.proofs.Common.{◌≡◌, ◌+◌, get_or, slice_get, Some, sym, subst, arith, Option, ℕ}
use Rattle.std.proofs.lemmas.Option.{slice_get-get_or}
use Rattle.report_check.specs.declared.asked.Asked.{Asked}
use Rattle.report_check.proofs.Judging.{LeavesUpTo, leaves_first, leaves_more, leaves_all}
use Rattle.report_check.proofs.partition.first_missed.Goals as goal

abbrev none : Asked
none = record { stamp = 0; place = 0 }

pub loop-at-init : goal.loop-at-init
loop-at-init c = leaves_first c.args.asked.now c.args.settling

pub loop-at-preserved : goal.loop-at-preserved
loop-at-preserved c =
    let asked = c.args.asked.now in
    let at = c.loop-at.at in
    let is : slice_get asked at ≡ Some (get_or asked at none) = slice_get-get_or asked at none (omega (arith, c.loop-at-test.true)) in
    subst (λ (m : Option ℕ). LeavesUpTo asked c.args.settling (at + 1) m) (sym c.earlier-missed.ensures) (leaves_more asked c.args.settling at c.loop-at.missed (get_or asked at none) c.loop-at.invariant is)

pub returns : goal.returns
returns c = leaves_all c.args.asked.now c.args.settling c.loop-at.at c.loop-at.missed c.loop-at.invariant (omega (arith, c.loop-at-test.false))
