use Rattle.std.proofs.Common.{ℕ, ◌≡◌, drop, length}
use Rattle.report_check.specs.Shared.{AreLinesOf}
use Rattle.report_check.proofs.LastStamps.{NoneFell}
use Rattle.report_check.proofs.falls.first_fall.Given as goal

abbrev pub invariant-loop-at : goal.invariant-loop-at
invariant-loop-at l = record {
  many : length l.last.items ≡ l.options.readers;
  fell : (p : ℕ) → AreLinesOf l.options p l.trace 0 (length l.trace) l.lines → NoneFell l.options p l.trace l.report (drop l.at l.lines) l.last.items;
}
