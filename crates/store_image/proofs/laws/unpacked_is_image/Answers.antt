use Rattle.store_image.proofs.Unpacked.{unpacked_again}
use Rattle.store_image.proofs.laws.unpacked_is_image.Goals as goal

pub returns : goal.returns
returns c options pairs again report mode image image' exact has done = unpacked_again options pairs report again mode image image' exact has done
