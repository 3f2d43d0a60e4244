use Rattle.one_order.proofs.Ordered.{ordered}
use Rattle.one_order.proofs.laws.one_order.Goals as goal

pub returns : goal.returns
returns c = ordered
