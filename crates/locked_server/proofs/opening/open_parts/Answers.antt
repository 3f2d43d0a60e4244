use Rattle.std.proofs.Common.{◌≡◌, ◌++◌, [], map, sym, ap, ◌∙◌, subst, arith, append-nil}
use Rattle.std.specs.Prelude.{Ok, Err}
use Rattle.std.specs.Vec.Iter.{into_iter_items}
use Rattle.std.proofs.lemmas.Grind.{common_steps}
use Rattle.std.proofs.lemmas.List.{nil_from_length}
use Rattle.std.proofs.lemmas.Result.{err_from_is_err_and}
use Rattle.locked_server.specs.declared.filling.OpenFault.TheVariants.{Refused}
use Rattle.locked_server.specs.declared.opening.FilledPart.{FilledPart}
use Rattle.locked_server.specs.Opening.{FilledView, filled_view}
use Rattle.locked_server.proofs.Opened.{all_filled, next_refused}
use Rattle.locked_server.proofs.opening.open_parts.Given as given
use Rattle.locked_server.proofs.opening.open_parts.Goals as goal

abbrev view : (g : given.Over) → FilledPart g.row.P.Denot → FilledView
view g f = filled_view g.P.Partition.owner g.P.Partition.home f

pub returns-clause-filled : goal.returns-clause-filled
returns-clause-filled g c =
    let parts = c.loop-made.parts.items in
    let made = c.in_ok-made-items.made-items.items in
    let left = into_iter_items c.loop-made.made-iterator in
    let none : left ≡ [] = nil_from_length left (omega (arith, c.in-None.ensures.steps.0, c.loop-made.made-iterator.rest.ok)) in
    let all : map Ok parts ≡ made =
    sym (append-nil (map Ok parts)) ∙ (ap (λ l. map Ok parts ++ l) (sym none) ∙ (c.loop-made.invariant ∙ c.into_iter-made-iterator.ensures.into_iter_gives.0)) in
    all_filled (view g) c.args.options.now c.args.filling.now made c.in_ok-made-items.ensures.each parts all c.in_ok-made-items.ensures.many

pub returns-in_err-made-clause-refused : goal.returns-in_err-made-clause-refused
returns-in_err-made-clause-refused g c e =
    let parts = c.loop-made.parts.items in
    let is = err_from_is_err_and c.from_residual-in_err-made.result c.from_residual-in_err-made.ensures.1 in
    next_refused (view g) c.args.options.now c.args.filling.now c.in_ok-made-items.made-items.items c.in_ok-made-items.ensures.each parts c.in-Some.made (into_iter_items c.next.new.self)
    (ap (λ l. map Ok parts ++ l) (sym c.in-Some.ensures.steps.0) ∙ (c.loop-made.invariant ∙ c.into_iter-made-iterator.ensures.into_iter_gives.0))
    (grind (arith, common_steps, c.in_err-made.was, is.1, is.2, e))
