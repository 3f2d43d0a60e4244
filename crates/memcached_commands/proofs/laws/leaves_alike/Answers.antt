use Rattle.memcached_commands.proofs.MeantLaws as laws
use Rattle.memcached_commands.proofs.laws.leaves_alike.Goals as goal

pub returns : goal.returns
returns c = laws.leaves_alike
