use Rattle.store_image.proofs.Complete.{faultless_spells}
use Rattle.store_image.proofs.Faultless.{image_has_no_fault}
use Rattle.store_image.proofs.laws.faultless_is_image.Goals as goal

pub returns-clause-image : goal.returns-clause-image
returns-clause-image c = λ bytes are none. (_, faultless_spells bytes are none)

pub returns-clause-no_fault : goal.returns-clause-no_fault
returns-clause-no_fault c = image_has_no_fault
