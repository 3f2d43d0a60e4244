use Rattle.kept_items.proofs.Walked.{parts_again}
use Rattle.kept_items.proofs.laws.parts_again.Goals as goal

pub returns : goal.returns
returns c = parts_again
