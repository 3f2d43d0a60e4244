use Rattle.memcached_commands.proofs.MeantLaws as laws
use Rattle.memcached_commands.proofs.laws.what_is_meant.Goals as goal

pub returns : goal.returns
returns c = laws.meant
