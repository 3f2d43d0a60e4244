use Rattle.mica_trace.proofs.TraceLaws.{one_trace, one_but_for_the_line_feed}
use Rattle.mica_trace.proofs.ReportLaws.{one_report}
use Rattle.mica_trace.proofs.laws.one_reading.Goals as goal

pub returns-clause-trace : goal.returns-clause-trace
returns-clause-trace c = one_trace

pub returns-clause-trace_texts : goal.returns-clause-trace_texts
returns-clause-trace_texts c = one_but_for_the_line_feed

pub returns-clause-report : goal.returns-clause-report
returns-clause-report c = one_report
