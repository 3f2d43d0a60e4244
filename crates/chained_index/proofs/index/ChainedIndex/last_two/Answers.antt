use Rattle.chained_index.proofs.Words.{◌∙◌, refl, ap, arith, rules, Shape, Index}
use Rattle.chained_index.proofs.Filled.{View, view_read}
use Rattle.chained_index.proofs.Walking.{at_first, one_further, at_end, at_last, behind_further, ends_in}
use Rattle.chained_index.proofs.index.ChainedIndex.last_two.Given.{Over}
use Rattle.chained_index.proofs.index.ChainedIndex.last_two.Goals.{After-read-next}
use Rattle.chained_index.proofs.index.ChainedIndex.last_two.Goals as goal

pub loop-link-init : goal.loop-link-init
loop-link-init g c = record { owner = refl; home = refl; walk = at_first _ c.args.bucket c.requires.bucket; behind = λ k e. absurd (omega arith) }

seen : (g : Over) (c : After-read-next g) → View (g.W.OwnerWords.owner c.args.words.now) c.args.self.now c.args.bucket
seen g c = view_read _ _ _ _ (c.read-next.ensures.same ∙ c.loop-link.invariant.owner) c.read-next.ensures.kept c.requires.index c.requires.bucket

pub returns-then-next-eq0-clause-last : goal.returns-then-next-eq0-clause-last
returns-then-next-eq0-clause-last g c =
    let a = (goal.at.returns-then-next-eq0-clause-last g c).After-read-next in
    let l = c.loop-link.invariant in
    ends_in _ _ _ _ _ l.walk l.behind (at_end _ _ _ (seen g a) _ _ l.walk c.read-next.result (cc) (search rules))

pub loop-link-preserved : goal.loop-link-preserved
loop-link-preserved g c =
    let l = c.loop-link.invariant in
    let walk = one_further _ _ _ (seen g (goal.at.loop-link-preserved g c).After-read-next) _ _ l.walk c.read-next.result (cc) (search rules) in
    record { owner = c.read-next.ensures.same ∙ l.owner; home = cc; walk = walk; behind = behind_further _ _ _ _ l.walk }

pub returns-clause-last : goal.returns-clause-last
returns-clause-last g c =
    let l = c.loop-link.invariant in
    let far = at_last _ _ _ _ l.walk (omega (arith, ap (λ (z : Shape). z.spares) c.requires.index.shape, ap (λ (z : Index). z.shape.spares) c.self.view_is)) in
    ends_in _ _ _ _ _ l.walk l.behind far
