use Rattle.std.proofs.Common.{◌-◌, ◌≤◌, length, take, drop}
use Rattle.std.specs.List.{AllByRecursion}
use Rattle.mica_replay.proofs.RoundEnds.{IsNoSync}
use Rattle.mica_replay.proofs.rounds.next_sync.Given as goal

abbrev pub invariant-loop-number : goal.invariant-loop-number
invariant-loop-number l = record {
  low : l.from ≤ l.number;
  within : l.number ≤ length l.lines;
  none : AllByRecursion IsNoSync (take (l.number - l.from) (drop l.from l.lines));
}
