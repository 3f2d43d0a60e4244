use Rattle.std.proofs.Common.{refl}
use Rattle.std.specs.Hash.DefaultHasher.{with_keys}
use Rattle.keyed_hash.proofs.mixed.Mixed.under.Goals as goal

pub returns : goal.returns
unfolding with_keys
returns c = refl
