use Rattle.mica_trace.proofs.ReportStamps.{lawful_is_report}
use Rattle.mica_trace.proofs.laws.lawful_is_report.Goals as goal

pub returns : goal.returns
returns c options text trace report valid = lawful_is_report options valid text trace report
