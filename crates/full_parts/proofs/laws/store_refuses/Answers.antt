use Rattle.full_parts.proofs.Answered.{law}
use Rattle.full_parts.proofs.laws.store_refuses.Goals as goal

pub returns : goal.returns
returns c = law
