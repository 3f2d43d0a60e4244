use Rattle.memcached_commands.proofs.DecideLaws as laws
use Rattle.memcached_commands.proofs.laws.counts.Goals as goal

pub returns-clause-around : goal.returns-clause-around
returns-clause-around c = laws.counts

pub returns-clause-on : goal.returns-clause-on
returns-clause-on c = laws.counts_go_on
