use Rattle.std.proofs.Common.{◌≡◌, ◌*◌, ◌++◌, ℕ, Some, length, map, slice_get}
use Rattle.std.specs.Vec.Iter.{into_iter_items}
use Rattle.queue_front.specs.QueueFront.{QueueView, queue_view}
use Rattle.mica_serve.specs.Hands.{AreLent}
use Rattle.mica_serve.specs.Tasks.{owner_end}
use Rattle.mica_serve.proofs.opening.open_all.Given as goal

abbrev pub invariant-loop-hand : goal.invariant-loop-hand
invariant-loop-hand g l = record {
  lent : AreLent l.options l.ports.fronts (255 * l.ports.batches) (map (λ t. owner_end g.P.Partition.owner g.P.Partition.home t) l.owners.items)
      (map (λ (f : QueueView). f.parts) l.fronts.items ++ map (λ own. own.items) (into_iter_items l.hand-iterator));
  number : l.number ≡ length l.fronts.items;
  each : (f : ℕ) (front : QueueView) → slice_get l.fronts.items f ≡ Some front → front ≡ queue_view l.options f 0 (255 * l.ports.batches) front.parts;
}
