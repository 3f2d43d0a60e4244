use Rattle.memcached_requests.proofs.ToldLaws.{is_told, never_hides_faults}
use Rattle.memcached_requests.proofs.laws.told_replies.Goals as goal

pub returns-clause-faults : goal.returns-clause-faults
returns-clause-faults c = never_hides_faults

pub returns-clause-told : goal.returns-clause-told
returns-clause-told c = is_told
