use Rattle.chained_index.proofs.Words.{◌≡◌, ◌∙◌, ap, length, rules, sym, nil_from_length, Index}
use Rattle.chained_index.proofs.UnusedLaws.{unused_first}
use Rattle.chained_index.proofs.index.ChainedIndex.take_spare.Goals as goal

pub returns-clause-taken : goal.returns-clause-taken
returns-clause-taken c =
    let none : length c.self.inside.returned.items ≡ 0 = search rules in
    let gone : length c.pop.new.self.items ≡ 0 = search rules in
    ap (λ (z : Index). z.free) (sym c.self.view_is)
    ∙ unused_first c.self.inside.unused c.self.inside.left c.self.inside.returned.items c.pop.new.self.items c.if-self-eq0.false (nil_from_length c.self.inside.returned.items none) (nil_from_length c.pop.new.self.items gone)
