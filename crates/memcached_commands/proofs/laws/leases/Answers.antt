use Rattle.memcached_commands.proofs.LeaseLaws as laws
use Rattle.memcached_commands.proofs.laws.leases.Goals as goal

pub returns-clause-once : goal.returns-clause-once
returns-clause-once c = laws.wins_once

pub returns-clause-stale : goal.returns-clause-stale
returns-clause-stale c = laws.stays_stale
