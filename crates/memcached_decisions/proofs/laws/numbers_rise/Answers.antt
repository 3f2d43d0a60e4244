use Rattle.std.proofs.Common.{arith}
use Rattle.memcached_decisions.proofs.laws.numbers_rise.Goals as goal

pub returns : goal.returns
returns c base earlier later fits before = omega (arith, fits, before)
