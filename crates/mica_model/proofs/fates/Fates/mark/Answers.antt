use Rattle.std.proofs.Common.{ap, ◌∙◌}
use Rattle.mica_model.proofs.FateNotes.{notes_in, set_marks}
use Rattle.mica_model.proofs.fates.Fates.mark.Goals as goal

pub returns-in-Some : goal.returns-in-Some
returns-in-Some c =
    ap notes_in (c.get_mut.follows.holds c.args.fate).0
    ∙ (λ i k. set_marks c.args.key.now c.args.fate c.args.self.now.notes.entries k i)
