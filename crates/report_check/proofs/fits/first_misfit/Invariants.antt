use Rattle.std.proofs.Common.{take}
use Rattle.std.specs.List.{AllZip}
use Rattle.mica_trace.specs.LawfulReport.{IsLineFor}
use Rattle.report_check.proofs.fits.first_misfit.Given as goal

abbrev pub invariant-loop-place : goal.invariant-loop-place
invariant-loop-place l = AllZip IsLineFor (take l.place l.trace) (take l.place l.report)
