use Rattle.memcached_requests.proofs.NextLaws.{next_stays, next_waits, takes_some}
use Rattle.memcached_requests.proofs.laws.one_next.Goals as goal

pub returns-clause-stays : goal.returns-clause-stays
returns-clause-stays c = next_stays

pub returns-clause-takes : goal.returns-clause-takes
returns-clause-takes c = takes_some

pub returns-clause-waits : goal.returns-clause-waits
returns-clause-waits c = next_waits
