use Rattle.memcached_requests.proofs.AlikeLaws.{asks_alike, meta_asks_alike}
use Rattle.memcached_requests.proofs.laws.asks_alike.Goals as goal

pub returns-clause-frames : goal.returns-clause-frames
returns-clause-frames c = asks_alike

pub returns-clause-metas : goal.returns-clause-metas
returns-clause-metas c = meta_asks_alike
