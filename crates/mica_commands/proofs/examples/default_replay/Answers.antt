use Rattle.std.proofs.Common.{refl}
use Rattle.mica_commands.proofs.examples.default_replay.Goals as goal

pub returns-clause-replay : goal.returns-clause-replay
returns-clause-replay c = refl

pub returns-clause-no_mode : goal.returns-clause-no_mode
returns-clause-no_mode c = refl
