use Rattle.partition_words.proofs.Vocabulary.{ap, get_or, ℕ, ◌∙◌}
use Rattle.partition_words.proofs.LoadKeeps.{tells}
use Rattle.scripted_reader.proofs.scripted.ScriptedReaderWords.last_epoch.Goals as goal

pub returns-clause-tells : goal.returns-clause-tells
returns-clause-tells c =
    let self = c.args.self.now in
    let owner = c.load.new.self.stage.seat.me.0.owner in
    let e = c.load.ensures in
    let found = e.value ∙ ap (λ (z : ℕ). get_or owner.words z 0) c.place-place.ensures in
    rw found (tells owner e.owner self.stage.seat.me.0.reader e.reader self.bucket (λ t is. (self.tries t is).0))
