use Rattle.memcached_meta.proofs.MetaLaws as laws
use Rattle.memcached_meta.proofs.laws.never_hidden.Goals as goal

pub returns : goal.returns
returns c = laws.never_hidden
