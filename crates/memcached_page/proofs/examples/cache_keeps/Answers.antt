use Rattle.std.proofs.Common.{◌≡◌, ◌≤◌, ◌⊎◌, true, false, inl, inr, refl, true≢false, arith}
use Rattle.memcached_text.specs.Item.{item_text}
use Rattle.memcached_commands.specs.Decide.{decide}
use Rattle.memcached_commands.specs.Moments.{end_of}
use Rattle.memcached_page.proofs.examples.cache_keeps.Goals as goal

-- the log was not written round, and no other key was written
stays : (true ≡ false) ⊎ (15 ≤ 0) → ⊥
stays (inl round) = true≢false round
stays (inr many) = omega (arith, many)

pub returns-clause-at_once : goal.returns-clause-at_once
unfolding decide end_of item_text
returns-clause-at_once c = λ class keeps. stays keeps.1.0

pub returns-clause-for_gets : goal.returns-clause-for_gets
unfolding decide end_of item_text
returns-clause-for_gets c = λ class keeps. stays keeps.1.1.0

pub returns-clause-round : goal.returns-clause-round
unfolding decide end_of item_text
returns-clause-round c = λ class. (tt, (tt, (tt, (inl refl, tt))))
