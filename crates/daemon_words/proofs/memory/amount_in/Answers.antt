use Rattle.std.proofs.Common.{◌/◌, sym, arith}
use Rattle.option_words.proofs.ValueLemmas.{number_bounds}
use Rattle.daemon_words.proofs.MemoryLemmas.{units_few}
use Rattle.daemon_words.proofs.memory.amount_in.Goals as goal

pub overflow_mul-amount : goal.overflow_mul-amount
overflow_mul-amount c =
    let within = number_bounds 1 (c.args.most / c.args.unit) c.args.digits.now c.in_ok-count.count (sym c.in_ok-count.ensures) in
    let few = units_few c.args.unit c.in_ok-count.count c.args.most c.requires within.1 in
    omega arith

pub returns-then-least-amount-clause-range : goal.returns-then-least-amount-clause-range
returns-then-least-amount-clause-range c =
    let within = number_bounds 1 (c.args.most / c.args.unit) c.args.digits.now c.in_ok-count.count (sym c.in_ok-count.ensures) in
    let few = units_few c.args.unit c.in_ok-count.count c.args.most c.requires within.1 in
    (omega arith, few)
