use Rattle.memcached_commands.proofs.MeantLaws as laws
use Rattle.memcached_commands.proofs.laws.tells_number.Goals as goal

pub returns : goal.returns
returns c = laws.tells
