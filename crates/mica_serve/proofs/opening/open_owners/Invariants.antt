use Rattle.std.proofs.Common.{◌≡◌, ℕ, [], Some, length, map, slice_get}
use Rattle.std.specs.Prelude.{◌*◌}
use Rattle.mica_serve.specs.Tasks.{owner_end}
use Rattle.mica_serve.specs.Hands.{AreLent}
use Rattle.mica_serve.proofs.opening.open_owners.Given as goal

abbrev pub invariant-loop : goal.invariant-loop
invariant-loop g l = record {
  many : length l.hands.items ≡ l.counter;
  none : (f : ℕ) (own : _) → slice_get (map (λ h. h.items) l.hands.items) f ≡ Some own → own ≡ [];
}

abbrev pub invariant-loop-p : goal.invariant-loop-p
invariant-loop-p g l = record {
  lent : AreLent l.options l.ports.fronts (255 * l.ports.batches) (map (λ t. owner_end g.P.Partition.owner g.P.Partition.home t) l.owners.items)
      (map (λ own. own.items) l.hands.items);
  many : length l.owners.items ≡ l.p;
}
