use Rattle.mica_commands.proofs.GenFacts.{key_fits}
use Rattle.mica_commands.proofs.spelling.put_key.Goals as goal

pub put_padded-requires-clause-digits : goal.put_padded-requires-clause-digits
put_padded-requires-clause-digits c = key_fits c.args.options.now c.args.number c.requires.valid c.requires.few
