use Rattle.mica_trace.proofs.TextParts.{are_report_lines}
use Rattle.exclusive_replay.proofs.printing.exclusive.Goals as goal

pub texts_of-requires-clause-lines : goal.texts_of-requires-clause-lines
texts_of-requires-clause-lines g c _ _ = are_report_lines c.args.trace.now c.in_ok-report.report c.in_ok-report.ensures.lines
