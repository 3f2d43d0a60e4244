use Rattle.std.proofs.Common.{◌≡◌, ℕ, ◌≤◌, length, take}
use Rattle.mica_trace.specs.TraceGrammar.{syncs_in}
use Rattle.report_check.proofs.rounds.round_end.Given as goal

abbrev pub invariant-loop-place : goal.invariant-loop-place
invariant-loop-place l = record {
  low : l.from ≤ l.place;
  high : l.place ≤ length l.trace;
  inside : (n : ℕ) → l.from ≤ n → n ≤ l.place → syncs_in (take n l.trace) ≡ syncs_in (take l.from l.trace);
}
