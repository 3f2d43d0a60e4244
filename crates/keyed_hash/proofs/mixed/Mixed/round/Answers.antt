use Rattle.std.specs.Hash.DefaultHasher.{round}
use Rattle.keyed_hash.proofs.mixed.Mixed.round.Goals as goal

pub returns : goal.returns
unfolding round
returns c = λ tail count. cc
