use Rattle.std.proofs.Common.{◌∷◌, ap}
use Rattle.memcached_commands.specs.declared.ask.Ask.TheVariants.{Get}
use Rattle.memcached_commands.specs.Asks.{asked}
use Rattle.memcached_commands.proofs.AskLaws.{none_asked}
use Rattle.memcached_commands.proofs.asks.Asks.spelled.Goals as goal

pub returns : goal.returns
returns c = ap (λ asks. asked c.args.ask c.args.key ∷ asks) (none_asked Get c.as_slice.result.now c.of.result (cc) c.of.ensures)
