use Rattle.std.proofs.Common.{◌≡◌, ℕ, ◌≤◌, [], length, take, slice_get, Some}
use Rattle.std.specs.Global.{Vec}
use Rattle.mica_trace.specs.RoundReport.{gets_in}
use Rattle.report_check.specs.declared.sharing.OwnLine.{OwnLine}
use Rattle.report_check.proofs.OwnLines.{AreSharedTo}
use Rattle.report_check.proofs.sharing.share_out.Given as goal

abbrev pub invariant-loop : goal.invariant-loop
invariant-loop l = record {
  many : length l.shared.items ≡ l.counter;
  empty : (p : ℕ) (own : Vec OwnLine) → slice_get l.shared.items p ≡ Some own → own.items ≡ [];
}

abbrev pub invariant-loop-place : goal.invariant-loop-place
invariant-loop-place l = record {
  few : l.gets ≤ l.place;
  counted : l.gets ≡ gets_in (take l.place l.trace);
  shared : AreSharedTo l.options l.trace l.place l.shared.items;
}
