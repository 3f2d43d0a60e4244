use Rattle.std.proofs.Common.{◌≡◌, ◌*◌, ◌<◌, ◌≤◌, ℕ}
use Rattle.block_heap.specs.Marks.{mark_at}
use Rattle.block_heap.proofs.marks.Marks.last.Given as goal

abbrev pub invariant-loop-word : goal.invariant-loop-word
invariant-loop-word l = (l.word ≤ 18) × ((at : ℕ) → 64 * l.word ≤ at → at < 1152 → mark_at l.self at ≡ 0)

abbrev pub decreases-loop-word : goal.decreases-loop-word
decreases-loop-word l = l.word
