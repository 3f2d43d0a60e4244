use Rattle.std.proofs.Common.{rules, ◌≡◌, ◌++◌, List, Some, length, take, drop, slice_get, sym, ap, ◌∙◌, subst, arith}
use Rattle.std.specs.Prelude.{Result}
use Rattle.std.proofs.lemmas.List.{append-nil, drop_all, take_all}
use Rattle.std.proofs.lemmas.Option.{get_or_from_slice_get, slice_get_within}
use Rattle.locked_server.specs.declared.filling.OpenFault.{OpenFault}
use Rattle.locked_server.specs.declared.opening.FilledPart.{FilledPart}
use Rattle.locked_server.specs.Opening.{FilledView, IsOpened, filled_view}
use Rattle.locked_server.proofs.opening.make_parts.Given as given
use Rattle.locked_server.proofs.opening.make_parts.Goals as goal

abbrev view : (g : given.Over) → FilledPart g.row.P.Denot → FilledView
view g f = filled_view g.P.Partition.owner g.P.Partition.home f

pub returns-clause-each : goal.returns-clause-each
returns-clause-each g c p made at =
    let value = c.as_mut_slice.ensures.value in
    let items = c.loop.made.items in
    let new = c.for_each_mut.new.s in
    let many : length new ≡ length items = search rules in
    let whole : take c.loop.made.len (new ++ drop (length new) items) ≡ new =
    ap (λ (l : List (Result (FilledPart g.row.P.Denot) OpenFault)). take c.loop.made.len (new ++ l)) (drop_all (length new) items (omega (arith, many)))
    ∙ ap (take c.loop.made.len) (append-nil new) ∙ take_all c.loop.made.len new (omega (arith, many, c.loop.made.ok.0)) in
    let here : slice_get new p ≡ Some made = ap (λ (l : List (Result (FilledPart g.row.P.Denot) OpenFault)). slice_get l p) (sym whole) ∙ at in
    let low = slice_get_within new p made here in
    let each = (c.for_each_mut.ensures p made (omega (arith, low, many, ap length value))).1 in
    let call : IsOpened {P = g.row.P.Denot} (view g) c.args.options.now c.args.filling.now p each.after_call.now = each.call in
    subst (IsOpened {P = g.row.P.Denot} (view g) c.args.options.now c.args.filling.now p) (each.left ∙ get_or_from_slice_get new p made made here) call
