use Rattle.memcached_meta.proofs.MetaLaws as laws
use Rattle.memcached_meta.proofs.laws.as_classic.Goals as goal

pub returns : goal.returns
returns c = laws.as_classic
