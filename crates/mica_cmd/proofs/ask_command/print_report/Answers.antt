use Rattle.std.proofs.Common.{◌∙◌, ap}
use Rattle.mica_trace.specs.TextParts.{joined}
use Rattle.mica_cmd.proofs.Asking.{texts_whole, texts_part}
use Rattle.mica_cmd.proofs.ask_command.print_report.Goals as goal

pub returns-in-Ok-write_texts : goal.returns-in-Ok-write_texts
returns-in-Ok-write_texts g c = texts_whole _ _ _ _ (ap joined c.as_slice.ensures.value ∙ c.in-Ok.ensures) c.in-Ok-write_texts.ensures.ok

pub returns : goal.returns
returns g c = texts_part _ _ _ _ (ap joined c.as_slice.ensures.value ∙ c.in-Ok.ensures) c.in-Err-write_texts.ensures.cause c.in-Err-write_texts.ensures.prefix
