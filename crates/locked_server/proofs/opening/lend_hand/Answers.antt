use Rattle.std.proofs.Common.{◌≡◌, ◌+◌, ◌<◌, List, length, map, refl, sym, ap, subst, arith}
use Rattle.std.proofs.lemmas.List.{length-map, map-set}
use Rattle.std.proofs.lemmas.Option.{slice_get_read, slice_get_within}
use Rattle.list_laws.proofs.Places.{at_map}
use Rattle.list_laws.proofs.UpTo.{up_none}
use Rattle.locked_server.specs.declared.opening.FilledPart.{FilledPart}
use Rattle.locked_server.specs.Opening.{FilledView, filled_view}
use Rattle.locked_server.proofs.Lending.{Lending, enrolled, next_planned, lends_next, all_lent, all_enrolled}
use Rattle.locked_server.proofs.opening.lend_hand.Given as given
use Rattle.locked_server.proofs.opening.lend_hand.Goals as goal

abbrev view : (g : given.Over) → FilledPart g.row.P.Denot → FilledView
view g f = filled_view g.P.Partition.owner g.P.Partition.home f

pub loop-p-init : goal.loop-p-init
loop-p-init g c = record {
  up = up_none (λ old new. new ≡ enrolled old) (map (view g) c.args.parts.now.items);
  many = ap length c.in_ok-hand.ensures.items;
  each = λ q part at. absurd (let low = slice_get_within c.in_ok-hand.hand.items q part at in omega (arith, ap length c.in_ok-hand.ensures.items));
}

pub lend-requires : goal.lend-requires
lend-requires g c =
    let i = c.loop-p.invariant in
    let now = c.loop-p.parts.items in
    let part = c.index_mut-part.result.now in
    let low : c.loop-p.p < length now =
    omega (arith, i.up.many, length-map now (view g), length-map c.args.parts.now.items (view g), c.loop-p-test.true, c.args.parts.now.ok, c.len-count.ensures) in
    (next_planned c.requires.of i (view g part) (at_map (view g) now c.loop-p.p part (slice_get_read now (length now) c.loop-p.p part refl low c.index_mut-part.ensures.value))).flushes

pub loop-p-preserved : goal.loop-p-preserved
loop-p-preserved g c =
    let i = c.loop-p.invariant in
    let now = c.loop-p.parts.items in
    let part = c.index_mut-part.result.now in
    let low : c.loop-p.p < length now =
    omega (arith, i.up.many, length-map now (view g), length-map c.args.parts.now.items (view g), c.loop-p-test.true, c.args.parts.now.ok, c.len-count.ensures) in
    let at = at_map (view g) now c.loop-p.p part (slice_get_read now (length now) c.loop-p.p part refl low c.index_mut-part.ensures.value) in
    subst (λ (l : List FilledView). Lending g.J.ServerPlan.plan c.args.front (c.loop-p.p + 1) (map (view g) c.args.parts.now.items) l c.push.new.self.items) (sym (map-set (view g) now c.loop-p.p c.lend.new.self))
    (lends_next c.requires.of i (view g part) (view g c.lend.new.self) c.in_ok-lend.field-0 c.push.new.self.items at c.in_ok-lend.ensures c.in_ok-push.ensures.items)

pub returns-clause-lent : goal.returns-clause-lent
returns-clause-lent g c = all_lent c.requires.of c.loop-p.invariant (omega (arith, length-map c.args.parts.now.items (view g), c.loop-p-test.false, c.loop-p.auto.p-end, c.args.parts.now.ok, c.len-count.ensures))

pub returns-clause-of : goal.returns-clause-of
returns-clause-of g c = all_enrolled c.requires.of c.loop-p.invariant (omega (arith, length-map c.args.parts.now.items (view g), c.loop-p-test.false, c.loop-p.auto.p-end, c.args.parts.now.ok, c.len-count.ensures))
