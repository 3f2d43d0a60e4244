use Rattle.std.proofs.Common.{length}
use Rattle.mica_trace.proofs.ReportReading.{HasReadLines}
use Rattle.mica_trace.proofs.report_reader.read_report.Given as goal

abbrev pub invariant-loop-rest : goal.invariant-loop-rest
invariant-loop-rest l = HasReadLines l.from l.report l.rest

abbrev pub decreases-loop-rest : goal.decreases-loop-rest
decreases-loop-rest l = length l.rest
