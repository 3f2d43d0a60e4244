use Rattle.memcached_commands.specs.declared.ask.Ask.TheVariants.{Get}
use Rattle.memcached_commands.proofs.AskLaws.{none_asked}
use Rattle.memcached_commands.proofs.asks.Asks.none.Goals as goal

pub returns : goal.returns
returns c = none_asked Get c.as_slice.result.now c.of.result (cc) c.of.ensures
