use Rattle.std.proofs.Common.{◌≡◌, ◌++◌, ◌∷◌, [], sym, ap, ◌∙◌, append_assoc}
use Rattle.std.specs.Option.{option_to_list}
use Rattle.std.specs.Vec.Iter.{into_iter_items}
use Rattle.option_words.proofs.program_words.gathered.Goals as goal

pub loop-word-init : goal.loop-word-init
loop-word-init c = ap (λ ws. ws ++ into_iter_items c.args.args) c.new-words.ensures.items

pub loop-word-preserved : goal.loop-word-preserved
loop-word-preserved c =
    let rest = into_iter_items c.next.new.self in
    let word = c.in-Some.word in
    let head : into_iter_items c.loop-word.left ≡ word ∷ rest = c.next.ensures.items ∙ ap (λ o. option_to_list o ++ rest) c.in-Some.is in
    ap (λ ws. ws ++ rest) c.in_ok-push.ensures.items ∙ append_assoc c.loop-word.words.items (word ∷ []) rest ∙ ap (λ ws. c.loop-word.words.items ++ ws) (sym head) ∙ c.loop-word.invariant
