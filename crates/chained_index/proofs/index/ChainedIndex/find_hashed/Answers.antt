use Rattle.std.proofs.lemmas.Grind.{common_steps}
use Rattle.chained_index.proofs.Words.{◌∙◌, sym, ap, subst, arith, rules, true≢false, tag_of, Shape, entry_in, Kept}
use Rattle.chained_index.proofs.Words.{Index, IsTrue, ◌↔◌}
use Rattle.chained_index.proofs.Filled.{View, view_read}
use Rattle.chained_index.proofs.Walking.{at_first, one_further, at_end, at_most, IsOfKey, spot_found, none_past_empty, none_at_end, one_more}
use Rattle.chained_index.proofs.index.ChainedIndex.find_hashed.Given.{Over}
use Rattle.chained_index.proofs.index.ChainedIndex.find_hashed.Goals.{After-read-entry, After-names_key, After-read-next}
use Rattle.chained_index.proofs.index.ChainedIndex.find_hashed.Goals as goal

pub loop-link-init : goal.loop-link-init
loop-link-init g c = grind (arith, common_steps, at_first (g.W.OwnerWords.owner c.args.words.now) c.args.bucket c.requires.bucket)

-- an entry was read

seen : (g : Over) (c : After-read-entry g) → View (g.W.OwnerWords.owner c.args.words.now) c.args.self.now c.args.bucket
seen g c = view_read _ _ _ _ (c.read-entry.ensures.same ∙ c.loop-slot.invariant.owner) c.read-entry.ensures.kept c.requires.index c.requires.bucket

pub returns-then-entry-eq0-clause-found : goal.returns-then-entry-eq0-clause-found
returns-then-entry-eq0-clause-found g c =
    none_past_empty _ _ _ (seen g (goal.at.returns-then-entry-eq0-clause-found g c).After-read-entry) c.args.key.now _ _ c.loop-link.invariant.walk
    c.loop-slot.slot c.loop-slot-test.true (cc) c.loop-slot.invariant.none

-- whether it is of the key
says : (g : Over) (c : After-names_key g) → IsTrue c.names_key.result ↔ IsOfKey (g.W.OwnerWords.owner c.args.words.now) c.args.key.now (entry_in (g.W.OwnerWords.owner c.args.words.now) c.loop-link.at c.loop-slot.slot)
unfolding tag_of
says g c = search (rules, entry_in)

pub returns-then-names_key-clause-found : goal.returns-then-names_key-clause-found
returns-then-names_key-clause-found g c =
    let a = (goal.at.returns-then-names_key-clause-found g c).After-read-entry in
    spot_found _ _ _ (seen g a) c.args.key.now _ _ c.loop-link.invariant.walk
    c.loop-slot.slot c.loop-slot-test.true (λ none. c.if-entry-eq0.false (cc))
    ((says g (goal.at.returns-then-names_key-clause-found g c).After-names_key).0 c.if-names_key.true)

pub loop-slot-preserved : goal.loop-slot-preserved
loop-slot-preserved g c =
    let same = c.read-entry.ensures.same ∙ c.loop-slot.invariant.owner in
    let none = one_more _ _ _ (seen g (goal.at.loop-slot-preserved g c).After-read-entry) c.args.key.now _ _ c.loop-link.invariant.walk
    c.loop-slot.slot c.loop-slot-test.true c.loop-slot.invariant.none
    (λ is. true≢false (sym ((says g (goal.at.loop-slot-preserved g c).After-names_key).1 is) ∙ c.if-names_key.false)) in
    record { owner = cc; home = cc; kept = λ some. subst Kept same c.read-entry.ensures.kept; none = none }

-- a link was read

linked : (g : Over) (c : After-read-next g) → View (g.W.OwnerWords.owner c.args.words.now) c.args.self.now c.args.bucket
linked g c = view_read _ _ _ _ (c.read-next.ensures.same ∙ c.loop-slot.invariant.owner) c.read-next.ensures.kept c.requires.index c.requires.bucket

pub returns-then-next-eq0-clause-found : goal.returns-then-next-eq0-clause-found
returns-then-next-eq0-clause-found g c =
    let a = (goal.at.returns-then-next-eq0-clause-found g c).After-read-next in
    none_at_end _ _ _ (linked g a) c.args.key.now _ _ c.loop-link.invariant.walk
    (at_end _ _ _ (linked g a) _ _ c.loop-link.invariant.walk c.read-next.result (cc) (search rules)) (λ i less. c.loop-slot.invariant.none i (omega arith))

pub loop-link-preserved : goal.loop-link-preserved
loop-link-preserved g c =
    let same = c.read-next.ensures.same ∙ c.loop-slot.invariant.owner in
    let walk = one_further _ _ _ (linked g (goal.at.loop-link-preserved g c).After-read-next) _ _ c.loop-link.invariant.walk c.read-next.result (cc) (search rules) in
    record { owner = same; home = cc; kept = λ more. subst Kept same c.read-next.ensures.kept; walk = walk; none = λ i less. c.loop-slot.invariant.none i (omega arith) }

pub returns-else-next-eq0-clause-found : goal.returns-else-next-eq0-clause-found
returns-else-next-eq0-clause-found g c =
    let a = (goal.at.returns-else-next-eq0-clause-found g c).After-read-next in
    let far = at_most _ _ _ _ (one_further _ _ _ (linked g a) _ _ c.loop-link.invariant.walk c.read-next.result (cc) (search rules)) in
    absurd (omega (arith, far, ap (λ (z : Shape). z.spares) c.requires.index.shape, ap (λ (z : Index). z.shape.spares) c.self.view_is))
