use Rattle.partition_model.proofs.Rises.{proper_prefix_lower, one_cut}
use Rattle.partition_model.proofs.laws.one_cut.Goals as goal

pub returns-clause-rises : goal.returns-clause-rises
returns-clause-rises c = proper_prefix_lower

pub returns-clause-one : goal.returns-clause-one
returns-clause-one c = one_cut
