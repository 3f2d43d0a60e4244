use Rattle.std.proofs.Common.{map, take, drop}
use Rattle.std.specs.Vec.Iter.{into_iter_items}
use Rattle.exclusive_replay.proofs.MergedLines.{IsMerging}
use Rattle.exclusive_replay.proofs.merging.merge.Given as goal

abbrev pub invariant-loop-line : goal.invariant-loop-line
invariant-loop-line l = IsMerging l.options (take l.line-index l.trace) (drop l.line-index l.trace) l.report (map (λ it. into_iter_items it) l.printed)
