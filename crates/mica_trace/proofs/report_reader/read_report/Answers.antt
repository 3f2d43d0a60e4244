use Rattle.std.proofs.Common.{◌+◌, Err, sym, ap, ◌∙◌, arith}
use Rattle.mica_trace.proofs.ReportReading.{room, refused, no_feed, no_line}
use Rattle.mica_trace.proofs.report_reader.read_report.Goals as goal

pub overflow_add-number : goal.overflow_add-number
overflow_add-number c =
    let few = room c.args.from.now c.loop-rest.report c.loop-rest.rest.now c.loop-rest.invariant (sym c.is_empty.ensures ∙ c.loop-rest-test.true) c.requires in
    omega (arith, c.len-number.ensures)

pub push-requires : goal.push-requires
push-requires c = room c.args.from.now c.loop-rest.report c.loop-rest.rest.now c.loop-rest.invariant (sym c.is_empty.ensures ∙ c.loop-rest-test.true) c.requires

pub returns-in_default-clause-refused : goal.returns-in_default-clause-refused
returns-in_default-clause-refused c =
    refused c.args.from.now c.loop-rest.report c.loop-rest.rest.now _ c.loop-rest.invariant (ap (λ n. n + 1) c.len-number.ensures)
    (sym c.is_empty.ensures ∙ c.loop-rest-test.true) (no_feed c.loop-rest.rest.now c.in_default.ensures)

pub returns-in-Err-Bad-clause-refused : goal.returns-in-Err-Bad-clause-refused
returns-in-Err-Bad-clause-refused c =
    refused c.args.from.now c.loop-rest.report c.loop-rest.rest.now _ c.loop-rest.invariant (ap (λ n. n + 1) c.len-number.ensures)
    (sym c.is_empty.ensures ∙ c.loop-rest-test.true)
    (no_line c.loop-rest.rest.now c.in-Some.text.now c.in-Some.after.now c.in-Some.ensures.0 c.in-Some.ensures.1 (c.in-Err-Bad.ensures.bad (ap Err c.in-Err-Bad.field-0-is)))
