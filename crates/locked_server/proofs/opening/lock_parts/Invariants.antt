use Rattle.std.proofs.Common.{◌≡◌, ◌+◌, ℕ, Some, length, map, slice_get}
use Rattle.std.specs.Vec.Iter.{into_iter_items}
use Rattle.locked_server.specs.Opening.{FilledView, IsPlanned, filled_view}
use Rattle.locked_server.proofs.opening.lock_parts.Given as goal

abbrev pub invariant-loop-filled : goal.invariant-loop-filled
invariant-loop-filled g l = record {
  many : l.locks + length (into_iter_items l.filled-iterator) ≡ length l.fn.parts.items;
  number : l.number ≡ l.locks;
  each : (p : ℕ) (filled : FilledView) → slice_get (map (λ f. filled_view g.P.Partition.owner g.P.Partition.home f) (into_iter_items l.filled-iterator)) p ≡ Some filled
      → IsPlanned g.J.ServerPlan.plan g.J.ServerPlan.plan.fronts (l.number + p) filled;
}
