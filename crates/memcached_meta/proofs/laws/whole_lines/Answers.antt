use Rattle.memcached_meta.proofs.NextLaws as laws
use Rattle.memcached_meta.proofs.laws.whole_lines.Goals as goal

pub returns : goal.returns
returns c = laws.meta_stays
