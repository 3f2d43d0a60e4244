use Rattle.mica_trace.proofs.ReportReading.{no_outcome}
use Rattle.mica_trace.proofs.report_reader.read_wrote.Goals as goal

pub returns-in-None-clause-bad : goal.returns-in-None-clause-bad
returns-in-None-clause-bad c is = no_outcome c.args.op c.args.text.now c.in-Some.words.now c.in-Some.stamp c.in-Some.ensures.0 c.in-Some.ensures.1 c.in-None.ensures
