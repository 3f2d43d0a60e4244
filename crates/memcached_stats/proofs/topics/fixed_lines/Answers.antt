use Rattle.std.proofs.Common.{◌∷◌, []}
use Rattle.memcached_stats.proofs.topics.fixed_lines.Goals as goal

pub returns-clause-are : goal.returns-clause-are
returns-clause-are c =
    λ i.
    c.told.ensures.is i
    ∷ c.told-2.ensures.is i
    ∷ c.told-3.ensures.is i
    ∷ c.told_word.ensures.is i
    ∷ c.told_word-2.ensures.is i
    ∷ c.told_word-3.ensures.is i
    ∷ c.told_word-4.ensures.is i
    ∷ c.told_word-5.ensures.is i
    ∷ c.told_word-6.ensures.is i
    ∷ c.told_word-7.ensures.is i
    ∷ c.told_word-8.ensures.is i
    ∷ c.told_word-9.ensures.is i
    ∷ c.told_word-10.ensures.is i
    ∷ c.told_word-11.ensures.is i
    ∷ c.told_word-12.ensures.is i
    ∷ c.told_word-13.ensures.is i
    ∷ c.told_word-14.ensures.is i
    ∷ c.told_word-15.ensures.is i
    ∷ []
