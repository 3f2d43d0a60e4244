use Rattle.std.proofs.Common.{◌≡◌, ℕ, ◌++◌, ◌∙◌, ◌≤◌, ◌*◌, [], Some, length, map, subst, sym, ap, append-nil, arith}
use Rattle.std.proofs.lemmas.List.{length-map, nil_from_length}
use Rattle.std.specs.Vec.Iter.{into_iter_items}
use Rattle.mica_trace.specs.TextParts.{AreTexts}
use Rattle.mica_trace.proofs.TextParts.{whole_text}
use Rattle.mica_trace.proofs.text_parts.texts_of.Goals as goal

pub returns : goal.returns
returns g c =
    let texts = c.loop-made.texts.items in
    let lines = c.args.report.now in
    let left = into_iter_items c.loop-made.made-iterator in
    let none : left ≡ [] = nil_from_length left (omega (arith, c.in-None.ensures.steps.0, c.loop-made.made-iterator.rest.ok)) in
    let all : map Some texts ≡ c.in_ok-made-items.made-items.items =
    sym (append-nil (map Some texts)) ∙ (ap (λ l. map Some texts ++ l) (sym none) ∙ (c.loop-made.invariant ∙ c.into_iter-made-iterator.ensures.into_iter_gives.0)) in
    whole_text c.max-size.result lines texts (subst (AreTexts c.max-size.result lines) (sym all) c.in_ok-made-items.ensures.made)
    (subst (λ (n : ℕ). length lines ≤ n * c.max-size.result) (ap length (sym all) ∙ length-map texts Some) c.in_ok-made-items.ensures.many)
