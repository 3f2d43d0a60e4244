use lib.Count.{ones}
use Rattle.std.proofs.Common.{refl}
use Rattle.mica_commands.proofs.examples.named_options.Goals as goal

pub returns-clause-replay : goal.returns-clause-replay
unfolding ones
returns-clause-replay c = refl

pub returns-clause-beyond : goal.returns-clause-beyond
returns-clause-beyond c = refl

pub returns-clause-twice : goal.returns-clause-twice
returns-clause-twice c = refl
