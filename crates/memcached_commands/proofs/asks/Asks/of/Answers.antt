use Rattle.memcached_commands.proofs.AskLaws.{gets_fit_by}
use Rattle.memcached_commands.proofs.asks.Asks.of.Goals as goal

pub returns-in-Get-clause-fit : goal.returns-in-Get-clause-fit
returns-in-Get-clause-fit c = gets_fit_by c.args.command c.in-Get.keys c.in-Get.unique c.in-Get.lifetime (cc)
