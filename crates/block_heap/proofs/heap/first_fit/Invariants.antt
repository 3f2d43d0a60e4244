use Rattle.std.proofs.Common.{length}
use Rattle.block_heap.specs.Inside.{AreShort}
use Rattle.block_heap.specs.Lists.{list_of, left_from}
use Rattle.block_heap.proofs.Finding.{Walk}
use Rattle.block_heap.proofs.heap.first_fit.Given as goal

abbrev pub invariant-loop-listed : goal.invariant-loop-listed
invariant-loop-listed l = record {
  walk : Walk (list_of l.free) l.rank l.listed;
  short : AreShort l.blocks.0 l.blocks.1 walk.before l.need;
}

abbrev pub decreases-loop-listed : goal.decreases-loop-listed
decreases-loop-listed l = length (left_from (list_of l.free) l.listed)
