use Rattle.std.proofs.Common.{ℕ, ◌≡◌, ◌-◌, ◌<◌, ◌≤◌}
use Rattle.std.specs.Prelude.{slice_index}
use Rattle.scripted_reader.proofs.scripted.are_cuts.Given as goal

abbrev pub invariant-loop-i : goal.invariant-loop-i
invariant-loop-i l = record {
  rise : (i j : ℕ) → i ≤ j → j < l.i → slice_index l.cuts i ≤ slice_index l.cuts j;
  low : (i : ℕ) → i < l.i → slice_index l.cuts i ≤ l.last;
  first : l.i ≡ 0 → l.last ≡ 0;
  behind : 0 < l.i → l.last ≡ slice_index l.cuts (l.i - 1);
}
