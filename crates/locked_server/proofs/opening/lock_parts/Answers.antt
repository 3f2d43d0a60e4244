use Rattle.std.proofs.Common.{ℕ, suc, length, map, slice_get, sym, ap, ◌∙◌, subst, arith}
use Rattle.std.specs.Vec.Iter.{into_iter_items}
use Rattle.std.proofs.lemmas.List.{length-map}
use Rattle.locked_front.specs.Owned.{Owned}
use Rattle.locked_server.specs.declared.opening.FilledPart.{FilledPart}
use Rattle.locked_server.specs.Opening.{FilledView, IsPlanned, filled_view}
use Rattle.locked_server.proofs.Lending.{new_desk, first_planned}
use Rattle.locked_server.proofs.opening.lock_parts.Given as given
use Rattle.locked_server.proofs.opening.lock_parts.Goals as goal

abbrev view : (g : given.Over) → FilledPart g.row.P.Denot → FilledView
view g f = filled_view g.P.Partition.owner g.P.Partition.home f

pub loop-filled-init : goal.loop-filled-init
loop-filled-init g c =
    let all = c.into_iter-filled-iterator.ensures.into_iter_gives.0 in
    record {
      many = omega (arith, ap length all, c.in_ok-locks.ensures);
      number = sym c.in_ok-locks.ensures;
      each = λ p filled at. subst (λ (q : ℕ). IsPlanned g.J.ServerPlan.plan g.J.ServerPlan.plan.fronts q filled) (omega arith)
          (c.requires.of.each p filled (ap (λ l. slice_get (map (view g) l) p) (sym all) ∙ at));
    }

pub new-requires-in-loop-filled-clause-filled : goal.new-requires-in-loop-filled-clause-filled
new-requires-in-loop-filled-clause-filled g c =
    new_desk g.J.ServerPlan.plan c.loop-filled.number (view g c.in-Some.filled)
    (first_planned g.J.ServerPlan.plan c.loop-filled.number (map (view g) (into_iter_items c.loop-filled.filled-iterator)) (map (view g) (into_iter_items c.next.new.self)) (view g c.in-Some.filled)
    (ap (map (view g)) c.in-Some.ensures.steps.0) c.loop-filled.invariant.each)

pub new-requires-in-loop-filled-clause-flushes : goal.new-requires-in-loop-filled-clause-flushes
new-requires-in-loop-filled-clause-flushes g c =
    (first_planned g.J.ServerPlan.plan c.loop-filled.number (map (view g) (into_iter_items c.loop-filled.filled-iterator)) (map (view g) (into_iter_items c.next.new.self)) (view g c.in-Some.filled)
    (ap (map (view g)) c.in-Some.ensures.steps.0) c.loop-filled.invariant.each).flushes

pub push-requires : goal.push-requires
push-requires g c = ap (λ (o : Owned). o.number) c.new-in-loop-filled.ensures ∙ c.loop-filled.invariant.number

pub overflow_add-number : goal.overflow_add-number
overflow_add-number g c =
    omega (arith, c.loop-filled.invariant.many, c.loop-filled.invariant.number, ap length c.in-Some.ensures.steps.0, c.requires.of.many, length-map c.args.parts.items (view g), c.requires.few)

pub loop-filled-preserved : goal.loop-filled-preserved
loop-filled-preserved g c =
    let head = c.in-Some.ensures.steps.0 in
    let pushed = c.in_ok-push.ensures in
    record {
      many = omega (arith, c.loop-filled.invariant.many, ap length head, pushed);
      number = omega (arith, c.loop-filled.invariant.number, pushed);
      each = λ p filled at. subst (λ (q : ℕ). IsPlanned g.J.ServerPlan.plan g.J.ServerPlan.plan.fronts q filled) (omega arith)
          (c.loop-filled.invariant.each (suc p) filled (ap (λ l. slice_get (map (view g) l) (suc p)) head ∙ at));
    }
