use Rattle.memcached_meta.proofs.MetaLaws as laws
use Rattle.memcached_meta.proofs.laws.one_spelling.Goals as goal

pub returns : goal.returns
returns c = laws.one_spelling
