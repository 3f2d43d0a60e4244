use Rattle.std.proofs.Common.{length, sym, ap, ◌∙◌}
use Rattle.store_image.proofs.PairLaws.{length-pairs_in}
use Rattle.store_image.proofs.image.Image.len.Goals as goal

pub returns : goal.returns
returns c = sym (length-pairs_in _ _) ∙ ap length c.self.view_is
