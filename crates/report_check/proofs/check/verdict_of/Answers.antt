use Rattle.std.proofs.Common.{arith}
use Rattle.std.proofs.lemmas.Option.{slice_get_within}
use Rattle.std.proofs.lemmas.Grind.{common_steps}
use Rattle.report_check.proofs.Found.{wrong_write, wrong_get, lawful}
use Rattle.report_check.proofs.check.verdict_of.Goals as goal

pub returns-in-Some-write : goal.returns-in-Some-write
returns-in-Some-write c = grind (arith, common_steps, wrong_write c.args.options.now c.args.trace.now c.args.report.now c.requires.valid c.in_default.ensures.first)

pub unlawful-requires-in-Some-get : goal.unlawful-requires-in-Some-get
unlawful-requires-in-Some-get c = grind (arith, common_steps, slice_get_within c.args.trace.now c.in-Some-get.place)

pub returns-in-Some-get : goal.returns-in-Some-get
returns-in-Some-get c = grind (arith, common_steps, wrong_get c.args.options.now c.args.trace.now c.args.report.now c.requires.valid c.in_default.ensures.first)

pub returns-in-None : goal.returns-in-None
returns-in-None c = grind (arith, common_steps, lawful c.args.options.now c.args.trace.now c.args.report.now c.requires.valid c.in_default.ensures.first)
