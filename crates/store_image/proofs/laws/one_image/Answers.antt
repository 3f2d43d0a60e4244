use Rattle.store_image.proofs.PairLaws.{one_image, one_text}
use Rattle.store_image.proofs.laws.one_image.Goals as goal

pub returns-clause-image : goal.returns-clause-image
returns-clause-image c = one_image

pub returns-clause-text : goal.returns-clause-text
returns-clause-text c = one_text
