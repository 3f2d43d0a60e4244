use Rattle.std.proofs.Common.{◌≡◌, inl, inr, ap, arith}
use Rattle.std.specs.Prelude.{codes, take}
use Rattle.memcached_commands.specs.declared.ask.Ask.TheVariants.{Get}
use Rattle.memcached_commands.specs.declared.ask.Says.TheVariants.{Shows}
use Rattle.memcached_commands.specs.Asks.{asked}
use Rattle.memcached_commands.specs.Decide.{decide}
use Rattle.memcached_commands.specs.Moments.{end_of}
use Rattle.memcached_page.specs.Shelf.{empty}
use Rattle.memcached_page.specs.Course.{IsCarried}
use Rattle.memcached_page.specs.Kept.{shelf_in}
use Rattle.memcached_page.specs.Examples.{shown_behind_refusal, item}
use Rattle.memcached_page.proofs.Answered.{shown_number}
use Rattle.memcached_page.proofs.examples.refused_is_gone.Goals as goal

pub returns : goal.returns
unfolding decide end_of
returns c = λ mode left course. never course.1.1.1.0.1
  where
    never : IsCarried 100 2 (asked Get (codes "n")) (Shows (item 1 (codes "5"))) (shelf_in empty (take 3 shown_behind_refusal)) → ⊥
    never (inl shown) = let one : 1 ≡ 0 = ap shown_number shown in omega (arith, one)
    never (inr lacks) = let one : 1 ≡ 0 = ap shown_number lacks.0 in omega (arith, one)
