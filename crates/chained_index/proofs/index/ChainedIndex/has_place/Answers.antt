use Rattle.chained_index.proofs.Words.{SLOTS, arith, ltb-false, le-ltb}
use Rattle.chained_index.proofs.Calls.{call_at, lacks, full_last}
use Rattle.chained_index.proofs.index.ChainedIndex.has_place.Goals as goal

pub returns-else-has_spare-clause-place : goal.returns-else-has_spare-clause-place
returns-else-has_spare-clause-place g c =
    let call = call_at _ _ _ _ _ c.end_of.ensures.same c.end_of.ensures.kept c.requires.index c.requires.bucket c.end_of.ensures.end in
    let none = c.has_spare.ensures.0 c.if-has_spare.false in
    (λ full. lacks _ _ _ _ call (ltb-false c.end_of.result.used SLOTS full) none, grind (arith, full_last _ _ _ _ call, le-ltb c.end_of.result.used SLOTS))
