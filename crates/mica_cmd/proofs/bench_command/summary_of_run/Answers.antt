use Rattle.std.proofs.Common.{List, ◌++◌, ap, ◌∙◌, subst, inr, refl}
use Rattle.mica_trace.specs.declared.line.TraceLine.{TraceLine}
use Rattle.mica_replay.specs.Replayed.{IsReplayed}
use Rattle.mica_replay.proofs.RoundSteps.{on_err_any}
use Rattle.mica_commands.specs.Generator.{generated}
use Rattle.mica_commands.specs.Summary.{summary_text}
use Rattle.mica_cmd.proofs.bench_command.summary_of_run.Goals as goal

pub returns-clause-ok : goal.returns-clause-ok
returns-clause-ok g c =
    let options = c.args.options.now in
    let trace = c.in_ok-trace.trace in
    let report = c.in_ok-report.report in (
      report,
      subst (λ (t : List TraceLine). IsReplayed options t report c.run_trace.new.tables) c.in_ok-trace.ensures.trace c.in_ok-report.ensures.ok,
      c.in_ok-put_summary.ensures.ok
          ∙ ap (λ text. text ++ summary_text options trace report) c.new-text.ensures.items
          ∙ ap (λ (t : List TraceLine). summary_text options t report) c.in_ok-trace.ensures.trace,
    )

-- the run had ended: its summary is not written, but there is one
pub returns-in_err-put_summary-clause-err : goal.returns-in_err-put_summary-clause-err
returns-in_err-put_summary-clause-err g c =
    let options = c.args.options.now in
    let report = c.in_ok-report.report in
    let is = subst (λ (t : List TraceLine). IsReplayed options t report c.run_trace.new.tables) c.in_ok-trace.ensures.trace c.in_ok-report.ensures.ok in
    on_err_any c.from_residual-in_err-put_summary.result (inr (summary_text options (generated c.args.generator.now) report, (report, is, refl)))
