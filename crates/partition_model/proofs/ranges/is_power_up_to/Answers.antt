use Rattle.std.proofs.Common.{arith}
use Rattle.std.proofs.lemmas.Bool.Decides.{nat_tests}
use Rattle.partition_model.proofs.PowersOfTwo.{shifted_one, small_power_of_two, power_is_small}
use Rattle.partition_model.proofs.ranges.is_power_up_to.Goals as goal

pub returns-then-is_power_of_two : goal.returns-then-is_power_of_two
returns-then-is_power_of_two c =
    let most = c.args.exponent in
    rw (shifted_one most (omega arith))
    (λ below. grind (arith, nat_tests, small_power_of_two most c.args.n), λ is. grind (arith, nat_tests, power_is_small most is.0 is.1))

pub returns-else-is_power_of_two : goal.returns-else-is_power_of_two
returns-else-is_power_of_two c = grind (arith, power_is_small c.args.exponent)
