use Rattle.std.proofs.Common.{◌≡◌, ◌+◌, ℕ, List, ◌++◌, Option, take, drop, rules, sym, ap, subst, ◌∙◌}
use Rattle.std.proofs.lemmas.List.{with_items_is, places}
use Rattle.std.proofs.Math.Seq.{take-add}
use Rattle.std.specs.Io.KnownBytes.{Consumes}
use Rattle.std.proofs.KnownBytes.{Consumes-trans}
use Rattle.outside.proofs.source.read_up_to.Goals as goal

-- room is made after the front, and what a read puts there is consumed after it
Consumes-after : (a b c : Option (List ℕ)) (front roomy lent after : List ℕ) (filled n : ℕ)
    → take filled roomy ≡ take filled front → lent ≡ roomy → take filled after ≡ take filled lent
    → Consumes a b (take filled front) → Consumes b c (take n (drop filled after))
    → Consumes a c (take (filled + n) after)
Consumes-after a b c front roomy lent after filled n made same kept before more =
    let whole = kept ∙ ap (take filled) same ∙ made in
    let split = take-add filled n after ∙ ap (λ p. p ++ take n (drop filled after)) whole in
    subst (Consumes a c) (sym split) (Consumes-trans a b c _ _ before more)

pub loop-filled-preserved : goal.loop-filled-preserved
loop-filled-preserved g c =
    let read = c.in_ok-count.ensures in
    let made = c.in_ok-make_room.ensures in
    let before = c.loop-filled.invariant in
    let items = with_items_is c.make_room.new.bytes c.read_after.new.bytes (search (rules, places)) in
    let consumed = Consumes-after _ _ _ _ _ _ _ _ _ made.front c.deref_mut.ensures.value read.front before.2 read.given in
    (search (rules, places), made.within, rw items consumed, search rules, search rules, search rules)
