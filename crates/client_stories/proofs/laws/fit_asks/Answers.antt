use Rattle.client_stories.proofs.Grammar.{fit_asks}
use Rattle.client_stories.proofs.laws.fit_asks.Goals as goal

pub returns : goal.returns
returns c = fit_asks
