use Rattle.memcached_decisions.proofs.SwapLaws.{swaps, drawn}
use Rattle.memcached_decisions.proofs.laws.swaps_what_stands.Goals as goal

pub returns-clause-swaps : goal.returns-clause-swaps
returns-clause-swaps c = swaps

pub returns-clause-drawn : goal.returns-clause-drawn
returns-clause-drawn c = drawn
