use Rattle.kept_items.proofs.Filled.{fills_what_lasts}
use Rattle.kept_items.proofs.laws.fills_what_lasts.Goals as goal

pub returns : goal.returns
returns c = fills_what_lasts
