use Rattle.memcached_law.proofs.FromKeepsUp.{law}
use Rattle.memcached_law.proofs.laws.memcached_in_store.Goals as goal

pub returns : goal.returns
returns c = law
