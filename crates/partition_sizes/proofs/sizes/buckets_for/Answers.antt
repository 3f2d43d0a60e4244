use Rattle.std.proofs.Common.{◌∙◌, sym, arith, ◌≤◌, ◌<◌, ◌^◌, ◌/◌, max}
use Rattle.std.specs.Int.{div_ceil}
use Rattle.partition_sizes.proofs.Doubling.{next_of_doubles, next_exponent}
use Rattle.partition_sizes.proofs.sizes.buckets_for.Goals as goal

pub returns : goal.returns
returns c =
    let next = c.next_power_of_two.ensures in
    let power = next.power in
    let least = div_ceil c.args.items 10 in
    let enough : least ≤ 2 ^ power.0 = omega (arith, power.1) in
    let down : 2 ^ power.0 / 2 < max 1 least = omega (arith, power.1) in
    power.1 ∙ sym (next_of_doubles 24 0 power.0 least (omega arith) (next_exponent 24 power.0 least (omega arith) down) enough down)
