use Rattle.mica_trace.proofs.OneFault.{one_fault, one_bad_line}
use Rattle.mica_trace.proofs.laws.one_fault.Goals as goal

pub returns-clause-trace : goal.returns-clause-trace
returns-clause-trace c = one_fault

pub returns-clause-report : goal.returns-clause-report
returns-clause-report c = one_bad_line
