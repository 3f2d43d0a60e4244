use Rattle.std.proofs.Common.{length, map}
use Rattle.std.specs.Vec.Iter.{into_iter_items}
use Rattle.exclusive_replay.proofs.Collected.{IsCollecting}
use Rattle.exclusive_replay.proofs.run.report_by.Given as goal

abbrev pub invariant-loop-owner : goal.invariant-loop-owner
invariant-loop-owner l =
    IsCollecting l.options l.trace (length l.yielded) (into_iter_items l.owner-iterator) (into_iter_items l.senders) (map (λ it. into_iter_items it) l.printed.items)
