use Rattle.std.proofs.Common.{◌≡◌, ◌≤◌, ◌+◌, ◌++◌, ℕ, Some, map, length, slice_get}
use Rattle.std.specs.Vec.Iter.{into_iter_items, into_iter_len}
use Rattle.partition_words.specs.declared.state.Phase.TheVariants.{Idle}
use Rattle.mica_replay.specs.Lending.{OwnerPart, owner_part}
use Rattle.mica_replay.specs.RoundRun.{kept_of}
use Rattle.mica_replay.proofs.run.keep_all.Given as goal

abbrev pub invariant-loop-owner : goal.invariant-loop-owner
invariant-loop-owner g l = record {
  room : length l.tables + length (into_iter_items l.left) ≤ 16;
  idle : (p : ℕ) (w : OwnerPart) → slice_get (map (λ w. owner_part g.P.Partition.owner g.P.Partition.home w) (into_iter_items l.left)) p ≡ Some w → w.state.phase ≡ Idle;
  kept : l.tables ++ map kept_of (map (λ w. owner_part g.P.Partition.owner g.P.Partition.home w) (into_iter_items l.left)) ≡ l.initial.tables ++ map kept_of (map (λ w. owner_part g.P.Partition.owner g.P.Partition.home w) (into_iter_items l.initial.left));
}

abbrev pub decreases-loop-owner : goal.decreases-loop-owner
decreases-loop-owner g l = into_iter_len l.left
