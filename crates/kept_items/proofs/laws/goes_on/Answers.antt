use Rattle.kept_items.proofs.Goes.{goes_on}
use Rattle.kept_items.proofs.laws.goes_on.Goals as goal

pub returns : goal.returns
returns c = goes_on
