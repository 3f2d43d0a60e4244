use Rattle.client_stories.proofs.Law.{law}
use Rattle.client_stories.proofs.laws.store_clients.Goals as goal

pub returns : goal.returns
returns c = law
