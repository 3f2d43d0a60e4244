use Rattle.saved_items.proofs.Changed.{one_changed_word}
use Rattle.saved_items.proofs.laws.one_changed_word.Goals as goal

pub returns : goal.returns
returns c = one_changed_word
