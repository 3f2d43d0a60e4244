use Rattle.std.proofs.Common.{ap}
use Rattle.mica_model.proofs.FateNotes.{notes_in}
use Rattle.mica_model.proofs.fates.Fates.new.Goals as goal

pub returns : goal.returns
returns c = ap notes_in c.new.ensures.empty
