use Rattle.report_check.proofs.Walks.{verdict_once}
use Rattle.report_check.proofs.laws.one_verdict.Goals as goal

pub returns : goal.returns
returns c = verdict_once
