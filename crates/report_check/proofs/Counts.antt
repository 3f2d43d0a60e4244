-- How many gets the first lines have.
use Rattle.std.proofs.Common.{◌≡◌, ℕ, ◌+◌, List, take, Some, arith, slice_get, cond}
use Rattle.std.proofs.lemmas.List.Sums.{sum_by-append, sum_by-cons}
use Rattle.std.proofs.lemmas.Grind.{common_steps}
use Rattle.mica_trace.specs.declared.line.TraceLine.{TraceLine}
use Rattle.mica_trace.specs.RoundReport.{is_get, gets_in}
use Rattle.report_check.proofs.Histories.{take_one}

pub gets_more : (trace : List TraceLine) (n : ℕ) (line : TraceLine) → slice_get trace n ≡ Some line → gets_in (take (n + 1) trace) ≡ gets_in (take n trace) + cond (is_get line) 1 0
gets_more trace n line is = grind (arith, common_steps, sum_by-append, sum_by-cons, take_one trace n line is)
