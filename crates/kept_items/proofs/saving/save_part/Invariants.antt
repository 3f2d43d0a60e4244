use Rattle.std.proofs.Common.{◌≡◌, ◌≤◌, ◌+◌, false, cond, [], length}
use Rattle.kept_items.proofs.Walked.{SoFar}
use Rattle.kept_items.proofs.saving.save_part.Given as goal

abbrev pub invariant-loop-more : goal.invariant-loop-more
invariant-loop-more g l = record {
  so_far : SoFar l.fn.at l.fn.closing (g.K.Sink.taken l.fn.sink) (g.K.Sink.taken l.sink) l.fn.spiller l.spiller (g.W.Walks.rest l.fn.walk) (g.W.Walks.rest l.walk);
  same : g.W.Walks.source l.walk ≡ g.W.Walks.source l.fn.walk;
  rises : g.K.Sink.faults l.fn.sink ≤ g.K.Sink.faults l.sink;
  none : l.more ≡ false → g.W.Walks.rest l.walk ≡ [];
}

abbrev pub decreases-loop-more : goal.decreases-loop-more
decreases-loop-more g l = length (g.W.Walks.rest l.walk) + cond l.more 1 0
