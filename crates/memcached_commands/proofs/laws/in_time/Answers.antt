use Rattle.memcached_commands.proofs.DecideLaws as laws
use Rattle.memcached_commands.proofs.laws.in_time.Goals as goal

pub returns-clause-late : goal.returns-clause-late
returns-clause-late c = laws.late_is_never

pub returns-clause-ends : goal.returns-clause-ends
returns-clause-ends c = laws.never_longer

pub returns-clause-flush : goal.returns-clause-flush
returns-clause-flush c = laws.ends_with_it
