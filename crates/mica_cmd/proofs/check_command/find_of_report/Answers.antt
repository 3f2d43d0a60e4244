use Rattle.std.proofs.Common.{sym, subst}
use Rattle.report_check.proofs.Walks.{is_verdict}
use Rattle.mica_cmd.specs.Findings.{FindsOfReport}
use Rattle.mica_cmd.proofs.Checking.{finds_verdict}
use Rattle.mica_cmd.proofs.check_command.find_of_report.Goals as goal

pub returns : goal.returns
returns c =
    let report = c.in-Ok.report in
    let verdict = c.in_ok-verdict.verdict in
    subst (FindsOfReport c.args.options.now c.args.trace.now c.args.text.now) (sym c.of.ensures)
    (finds_verdict c.args.options.now c.args.trace.now c.args.text.now report verdict c.in-Ok.ensures.report
    (is_verdict c.args.options.now c.args.trace.now report verdict c.in_ok-verdict.ensures.lawful c.in_ok-verdict.ensures.unlawful))
