use Rattle.memcached_decisions.proofs.GoneLaws.{gone}
use Rattle.memcached_decisions.proofs.laws.gone_stays_gone.Goals as goal

pub returns : goal.returns
returns c = gone
