use Rattle.std.proofs.Common.{List, subst, arith}
use Rattle.std.proofs.lemmas.Grind.{common_steps}
use Rattle.mica_trace.specs.declared.line.TraceLine.{TraceLine}
use Rattle.mica_trace.specs.declared.report.Line.{Line}
use Rattle.report_check.specs.FirstUnlawful.{IsVerdict}
use Rattle.report_check.proofs.Walks.{exactly_lawful, exactly_unlawful}
use Rattle.report_check.proofs.check.check_report.Goals as goal

pub returns-clause-lawful : goal.returns-clause-lawful
returns-clause-lawful c = grind (arith, common_steps, exactly_lawful c.args.options.now c.args.trace.now c.args.report.now c.in_ok-verdict.verdict c.requires)

pub returns-clause-unlawful : goal.returns-clause-unlawful
returns-clause-unlawful c =
    let options = c.args.options.now in
    let verdict = c.in_ok-verdict.verdict in
    let is = subst (λ (ls : List TraceLine). IsVerdict options ls c.args.report.now verdict) c.lines.ensures.same
    (subst (λ (rs : List Line). IsVerdict options c.lines.result.now rs verdict) c.lines-2.ensures c.in_ok-verdict.ensures) in
    λ n. exactly_unlawful options c.args.trace.now c.args.report.now verdict n c.requires is
