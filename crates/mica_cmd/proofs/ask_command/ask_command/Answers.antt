use Rattle.std.proofs.Common.{Err, refl, ap, subst}
use Rattle.mica_trace.specs.ReportGrammar.{report_text}
use Rattle.mica_trace.proofs.TextParts.{are_report_lines}
use Rattle.mica_cmd.specs.declared.status.Status.TheVariants.{Done}
use Rattle.server_words.specs.Output.{sink_facts}
use Rattle.mica_cmd.specs.Promise.{IsTold}
use Rattle.mica_cmd.specs.Promises.{IsToldFault}
use Rattle.mica_cmd.proofs.Asking.{ask_stopped, ask_done, ask_fault}
use Rattle.mica_cmd.proofs.ask_command.ask_command.Goals as goal

pub print_report-requires-clause-lines : goal.print_report-requires-clause-lines
print_report-requires-clause-lines g c κs within = are_report_lines c.in-Ok.trace c.in-Ok-ask.report c.in-Ok-ask.ensures.lines

pub returns-in-Err : goal.returns-in-Err
returns-in-Err g c = λ net kept. ask_stopped c.args.options.now _ _ _ c.in-Err.ensures.stopped c.in-Err.ensures.reads refl refl refl

pub returns-in-Ok-ask : goal.returns-in-Ok-ask
returns-in-Ok-ask g c =
    let facts = sink_facts g.K.Sink in
    let report = c.in-Ok-ask.report in
    let told = subst (λ s. IsTold Done (report_text report) (facts s) (facts c.print_report.new.sink) c.print_report.result) c.in-Ok.ensures.unwritten c.print_report.ensures in
    λ net kept. ask_done c.args.options.now _ _ c.in-Ok.trace c.in-Ok.ensures.trace report _ c.in-Ok-ask.ensures.told c.in-Ok-ask.ensures.silence told c.in-Ok.ensures.reads refl refl

pub returns : goal.returns
returns g c =
    let facts = sink_facts g.K.Sink in
    let fault = c.in-Err-ask.fault in
    let told = subst (λ s. IsToldFault fault (facts s) (facts c.tell_fault.new.sink) c.tell_fault.result) c.in-Ok.ensures.unwritten c.tell_fault.ensures in
    λ net kept. ask_fault c.args.options.now _ _ c.in-Ok.trace c.in-Ok.ensures.trace fault _ c.in-Err-ask.ensures.told c.in-Err-ask.ensures.silence c.in-Err-ask.ensures.ended (λ is. c.in-Err-ask.ensures.cause (ap Err is)) told c.in-Ok.ensures.reads refl refl
