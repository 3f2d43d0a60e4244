use Rattle.memcached_commands.proofs.DecideLaws as laws
use Rattle.memcached_commands.proofs.laws.one_value.Goals as goal

pub returns : goal.returns
returns c = laws.one_number_one_value
