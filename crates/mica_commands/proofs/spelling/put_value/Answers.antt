use Rattle.mica_commands.proofs.GenFacts.{value_fits}
use Rattle.mica_commands.proofs.spelling.put_value.Goals as goal

pub put_padded-requires-clause-digits : goal.put_padded-requires-clause-digits
put_padded-requires-clause-digits c = value_fits c.args.options.now c.args.number c.requires.valid c.requires.within
