use Rattle.std.proofs.Common.{◌≡◌, ◌+◌, ℕ, List, Some, length, map, slice_get}
use Rattle.locked_front.specs.declared.part.LockedPart.{LockedPart}
use Rattle.locked_server.specs.Opening.{ArePlanned, AreNewParts, filled_view}
use Rattle.locked_server.proofs.opening.lend_hands.Given as goal

abbrev pub invariant-loop-f : goal.invariant-loop-f
invariant-loop-f g l = record {
  of : ArePlanned g.J.ServerPlan.plan (l.first + l.f) (map (λ f. filled_view g.P.Partition.owner g.P.Partition.home f) l.parts.items);
  many : length l.hands.items ≡ l.f;
  each : (f : ℕ) (hand : List LockedPart) → slice_get (map (λ hand. hand.items) l.hands.items) f ≡ Some hand → AreNewParts g.J.ServerPlan.plan (l.first + f) hand;
}
