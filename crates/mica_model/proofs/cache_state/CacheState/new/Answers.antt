use Rattle.std.proofs.Common.{ap}
use Rattle.partition_model.specs.Cache.{start}
use Rattle.mica_model.proofs.cache_state.CacheState.new.Goals as goal

pub returns : goal.returns
unfolding start
returns c = ap (λ records. record { records = records; stamp = 0; accepted = 0 }) c.new.ensures.items
