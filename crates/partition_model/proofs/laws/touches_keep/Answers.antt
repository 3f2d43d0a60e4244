use Rattle.partition_model.proofs.Touching.{touches_keep}
use Rattle.partition_model.proofs.laws.touches_keep.Goals as goal

pub returns : goal.returns
returns c = touches_keep
