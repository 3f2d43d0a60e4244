use Rattle.std.proofs.Common.{◌≡◌, ◌*◌, ◌<◌, ℕ}
use Rattle.block_heap.specs.Marks.{mark_at}
use Rattle.block_heap.proofs.marks.Marks.next_above.Given as goal

abbrev pub invariant-loop-word : goal.invariant-loop-word
invariant-loop-word l = (next : ℕ) → l.at < next → next < 64 * l.word → mark_at l.self next ≡ 0
