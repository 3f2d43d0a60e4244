use Rattle.std.proofs.Common.{◌≡◌, ◌+◌, ℕ, List, ◌++◌, Option, take, drop, rules, sym, ap, subst, ◌∙◌}
use Rattle.std.proofs.Math.Seq.{take-add}
use Rattle.std.specs.Io.KnownBytes.{Consumes}
use Rattle.std.proofs.KnownBytes.{Consumes-trans}
use Rattle.saved_items.proofs.blocks.read_block.Goals as goal

Consumes-after : (a b c : Option (List ℕ)) (front after : List ℕ) (filled n : ℕ)
    → take filled after ≡ take filled front
    → Consumes a b (take filled front) → Consumes b c (take n (drop filled after))
    → Consumes a c (take (filled + n) after)
Consumes-after a b c front after filled n kept before more =
    let split = take-add filled n after ∙ ap (λ p. p ++ take n (drop filled after)) kept in
    subst (Consumes a c) (sym split) (Consumes-trans a b c _ _ before more)

pub loop-filled-preserved : goal.loop-filled-preserved
loop-filled-preserved g c =
    let read = c.in_ok-count.ensures in
    let before = c.loop-filled.invariant in
    (search rules, Consumes-after _ _ _ _ _ _ _ read.front before.1 read.given, search rules, search rules)
