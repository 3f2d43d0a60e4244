use Rattle.mica_commands.proofs.Drawing.{at_start}
use Rattle.mica_commands.proofs.draw.start.Goals as goal

pub returns : goal.returns
returns c = at_start c.args.options.now c.new.result c.new.ensures
