use Rattle.std.proofs.Common.{rules}
use Rattle.std.proofs.Common.{◌<◌, length, refl, arith}
use Rattle.std.proofs.lemmas.Bool.{false≢true}
use Rattle.std.proofs.lemmas.Option.{slice_get_read}
use Rattle.std.proofs.lemmas.Grind.{common_steps}
use Rattle.report_check.proofs.Fitting.{fit_more, first_here, first_end}
use Rattle.report_check.proofs.fits.first_misfit.Goals as goal

pub returns-then-not-stands_for-clause-first : goal.returns-then-not-stands_for-clause-first
returns-then-not-stands_for-clause-first c =
    let trace = c.args.trace.now in
    let report = c.args.report.now in
    let n = c.loop-place.place in
    let line = c.index-trace-place.result in
    let printed = c.index-report-place.result in
    let less : n < length trace = omega (arith, c.loop-place-test.true, c.min-shorter.ensures) in
    let less' : n < length report = omega (arith, c.loop-place-test.true, c.min-shorter.ensures) in
    grind (arith, common_steps, first_here trace report n line printed, slice_get_read trace (length trace) n line refl less, slice_get_read report (length report) n printed refl less', false≢true)

pub loop-place-preserved : goal.loop-place-preserved
loop-place-preserved c =
    let trace = c.args.trace.now in
    let report = c.args.report.now in
    let n = c.loop-place.place in
    let line = c.index-trace-place.result in
    let printed = c.index-report-place.result in
    let less : n < length trace = omega (arith, c.loop-place-test.true, c.min-shorter.ensures) in
    let less' : n < length report = omega (arith, c.loop-place-test.true, c.min-shorter.ensures) in
    fit_more trace report n line printed (slice_get_read trace (length trace) n line refl less c.index-trace-place.is) (slice_get_read report (length report) n printed refl less' c.index-report-place.is)
    (c.stands_for.ensures.0 c.if-not-stands_for.false) c.loop-place.invariant

pub returns-else-trace-report-clause-first : goal.returns-else-trace-report-clause-first
returns-else-trace-report-clause-first c = search (rules, first_end)
