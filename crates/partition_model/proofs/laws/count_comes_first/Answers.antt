use Rattle.partition_model.proofs.Stamps.{tail_small}
use Rattle.partition_model.proofs.laws.count_comes_first.Goals as goal

pub returns : goal.returns
returns c = tail_small
