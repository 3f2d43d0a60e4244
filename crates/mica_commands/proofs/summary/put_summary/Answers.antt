use Rattle.std.proofs.Common.{◌++◌, ◌∙◌, sym, ap, length}
use Rattle.mica_commands.specs.Summary.{summary_text}
use Rattle.mica_commands.proofs.Summing.{one_each}
use Rattle.mica_commands.proofs.summary.put_summary.Goals as goal

pub summary_of-requires-clause-same : goal.summary_of-requires-clause-same
summary_of-requires-clause-same c =
    ap length c.lines.ensures.same ∙ one_each c.args.trace.now c.args.report.now c.requires.lawful.lines ∙ ap length (sym c.lines-2.ensures)

pub returns-clause-ok : goal.returns-clause-ok
returns-clause-ok c =
    c.in_ok-extend_from_slice.ensures.items
    ∙ ap (λ text. c.args.out.now.items ++ text)
    (c.as_slice.ensures.value ∙ c.in_ok-text.ensures
    ∙ ap (λ trace. summary_text c.args.options.now trace c.lines-2.result.now) c.lines.ensures.same
    ∙ ap (λ report. summary_text c.args.options.now c.args.trace.now report) c.lines-2.ensures)
