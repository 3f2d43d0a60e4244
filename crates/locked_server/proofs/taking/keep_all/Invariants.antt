use Rattle.std.proofs.Common.{◌≡◌, ◌≤◌, ◌+◌, ◌++◌, ℕ, Some, map, length, slice_get}
use Rattle.std.specs.Vec.Iter.{into_iter_items, into_iter_len}
use Rattle.partition_model.specs.declared.options.TheConstants.{MOST_PARTITIONS}
use Rattle.partition_words.specs.declared.state.Phase.TheVariants.{Idle}
use Rattle.partition_table.specs.Tabled.{kept_seat_in}
use Rattle.locked_front.specs.Owned.{Owned}
use Rattle.locked_server.specs.Taking.{left_view}
use Rattle.locked_server.proofs.taking.keep_all.Given as goal

abbrev pub invariant-loop-left : goal.invariant-loop-left
invariant-loop-left g l = record {
  room : length l.tables + length (into_iter_items l.rest) ≤ MOST_PARTITIONS;
  idle : (p : ℕ) (left : Owned) → slice_get (map (λ part. left_view g.P.Partition.owner g.P.Partition.home part) (into_iter_items l.rest)) p ≡ Some left → left.owner.phase ≡ Idle;
  kept : l.tables ++ map (λ left. kept_seat_in left.owner) (map (λ part. left_view g.P.Partition.owner g.P.Partition.home part) (into_iter_items l.rest))
      ≡ l.initial.tables ++ map (λ left. kept_seat_in left.owner) (map (λ part. left_view g.P.Partition.owner g.P.Partition.home part) (into_iter_items l.initial.rest));
}

abbrev pub decreases-loop-left : goal.decreases-loop-left
decreases-loop-left g l = into_iter_len l.rest
