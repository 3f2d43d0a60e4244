use Rattle.mica_words.proofs.Marks.{marks_lie}
use Rattle.mica_words.proofs.mark.marks_lie.Goals as goal

pub returns : goal.returns
returns c = marks_lie
