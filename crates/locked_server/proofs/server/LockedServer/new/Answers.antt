use Rattle.std.proofs.Common.{ℕ, map, sym, ◌∙◌, subst, arith}
use Rattle.std.proofs.lemmas.List.{length-map}
use Rattle.locked_server.specs.declared.opening.FilledPart.{FilledPart}
use Rattle.locked_server.specs.Opening.{FilledView, ArePlanned, filled_view}
use Rattle.locked_server.specs.Server.{IsRoom}
use Rattle.locked_server.proofs.server.LockedServer.new.Given as given
use Rattle.locked_server.proofs.server.LockedServer.new.Goals as goal

abbrev view : (g : given.Over) → FilledPart g.row.P.Denot → FilledView
view g f = filled_view g.P.Partition.owner g.P.Partition.home f

pub lend_hands-requires-2-clause-of : goal.lend_hands-requires-2-clause-of
lend_hands-requires-2-clause-of g c =
    subst (λ (n : ℕ). ArePlanned g.J.ServerPlan.plan n (map (view g) c.lend_hands.new.parts.items)) (omega arith) c.in_ok-stream_hands.ensures.of

pub lock_parts-requires-clause-of : goal.lock_parts-requires-clause-of
lock_parts-requires-clause-of g c =
    subst (λ (n : ℕ). ArePlanned g.J.ServerPlan.plan n (map (view g) c.lend_hands-2.new.parts.items)) (sym c.requires.takers) c.in_ok-hands.ensures.of

pub returns : goal.returns
returns g c =
    let plan = g.J.ServerPlan.plan in
    record {
      locked = c.in_ok-locks.ensures ∙ sym (length-map c.lend_hands-2.new.parts.items (view g)) ∙ c.in_ok-hands.ensures.of.many;
      lent_streams = c.in_ok-stream_hands.ensures.lent;
      lent = c.in_ok-hands.ensures.lent;
      has_room = subst (λ (n : ℕ). IsRoom c.args.service.now.places c.args.service.now.ports.fronts n c.in_ok-room.room)
          (omega (arith, c.len.ensures, c.args.parts.ok, length-map c.args.parts.items (view g), c.requires.of.many)) c.in_ok-room.ensures;
    }
