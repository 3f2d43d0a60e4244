use Rattle.std.proofs.Common.{sym, ◌∙◌}
use Rattle.partition_words.proofs.Shapes.{possible_in_range, in_range_possible}
use Rattle.partition_words.proofs.shape.Shape.is_possible.Goals as goal

pub returns : goal.returns
returns c =
    let shape = c.args.self.now in
    (λ is. possible_in_range shape (sym c.is_in_range.ensures ∙ is), λ valid. c.is_in_range.ensures ∙ in_range_possible shape valid)
