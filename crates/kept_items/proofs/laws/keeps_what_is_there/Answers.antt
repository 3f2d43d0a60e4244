use Rattle.kept_items.proofs.Walked.{keeps_what_is_there}
use Rattle.kept_items.proofs.laws.keeps_what_is_there.Goals as goal

pub returns : goal.returns
returns c = keeps_what_is_there
