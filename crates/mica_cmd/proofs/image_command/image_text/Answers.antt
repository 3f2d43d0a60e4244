use Rattle.mica_cmd.proofs.Imaging.{image_made}
use Rattle.mica_cmd.proofs.image_command.image_text.Goals as goal

pub returns : goal.returns
returns c = image_made c.args.options.now c.args.trace.now c.in_ok-imaged.imaged _ c.in_ok-imaged.ensures c.write_image.ensures
