use Rattle.kept_items.proofs.Stopped.{stop_and_start}
use Rattle.kept_items.proofs.laws.stop_and_start.Goals as goal

pub returns : goal.returns
returns c = stop_and_start
