use Rattle.std.proofs.Common.{◌≡◌, ◌≤◌, ◌+◌, ◌++◌, ℕ, Some, map, length, slice_get}
use Rattle.std.specs.Vec.Iter.{into_iter_items, into_iter_len}
use Rattle.partition_words.specs.declared.state.Phase.TheVariants.{Idle}
use Rattle.partition_table.specs.Tabled.{kept_seat_in}
use Rattle.mica_serve.specs.declared.worker.OwnerTask.{OwnerTask}
use Rattle.mica_serve.proofs.tables.keep_all.Given as goal

abbrev pub invariant-loop-owner : goal.invariant-loop-owner
invariant-loop-owner g l = record {
  room : length l.tables + length (into_iter_items l.left) ≤ 16;
  idle : (p : ℕ) (w : OwnerTask _) → slice_get (into_iter_items l.left) p ≡ Some w → (g.P.Partition.owner w.part).phase ≡ Idle;
  kept : l.tables ++ map (λ w. kept_seat_in (g.P.Partition.owner w.part)) (into_iter_items l.left) ≡ l.initial.tables ++ map (λ w. kept_seat_in (g.P.Partition.owner w.part)) (into_iter_items l.initial.left);
}

abbrev pub decreases-loop-owner : goal.decreases-loop-owner
decreases-loop-owner g l = into_iter_len l.left
