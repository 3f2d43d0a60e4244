use Rattle.saved_items.proofs.Begins.{no_beginning}
use Rattle.saved_items.proofs.laws.no_beginning.Goals as goal

pub returns : goal.returns
returns c = no_beginning
