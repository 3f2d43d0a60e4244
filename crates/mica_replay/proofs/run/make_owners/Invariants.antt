use Rattle.std.proofs.Common.{◌≡◌, ℕ, ◌+◌, Some, All, IfSome, map, length, slice_get}
use Rattle.std.specs.Vec.Iter.{into_iter_items}
use Rattle.partition_words.specs.Shape.{shape_of}
use Rattle.partition_words.specs.OwnerState.{as_made}
use Rattle.mica_replay.specs.Lending.{OwnerPart, owner_part}
use Rattle.mica_replay.proofs.run.make_owners.Given as goal

abbrev pub invariant-loop-made : goal.invariant-loop-made
invariant-loop-made g l = record {
  many : length l.owners.items + length (into_iter_items l.made-iterator) ≡ l.options.partitions;
  left : All (λ part. IfSome part (λ p. g.P.OnTable.state p ≡ as_made (shape_of l.options))) (into_iter_items l.made-iterator);
  made : (i : ℕ) (w : OwnerPart) → slice_get (map (λ w. owner_part g.P.Partition.owner g.P.Partition.home w) l.owners.items) i ≡ Some w → w.state ≡ as_made (shape_of l.options);
}
