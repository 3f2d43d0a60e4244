use Rattle.std.proofs.Common.{◌≡◌, ◌+◌, ◌<◌, ℕ, length}
use Rattle.std.specs.Prelude.{vec_capacity}
use Rattle.block_heap.specs.Links.{next_of, prev_of}
use Rattle.block_heap.specs.Slots.{most_slots}
use Rattle.block_heap.proofs.lists.FreeLists.new.Given as goal

abbrev pub invariant-loop-rank : goal.invariant-loop-rank
invariant-loop-rank l = record {
  count : length l.links.items ≡ l.rank;
  room : vec_capacity l.links ≡ most_slots l.words + 1152;
  rings : (rank : ℕ) → rank < l.rank → (next_of l.links.items rank ≡ rank) × (prev_of l.links.items rank ≡ rank);
}
