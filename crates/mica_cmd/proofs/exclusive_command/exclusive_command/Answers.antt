use Rattle.std.proofs.Common.{◌∙◌, Err, refl, ap, subst}
use Rattle.outside.specs.Faults.{Rose}
use Rattle.mica_trace.specs.ExactReport.{ExactReport}
use Rattle.mica_trace.specs.Printed.{PrintsText, PrintsPart}
use Rattle.server_words.specs.Output.{sink_facts}
use Rattle.mica_cmd.specs.Input.{AtDone}
use Rattle.mica_cmd.specs.Promises.{exclusive_promise, IsExactText}
use Rattle.mica_cmd.proofs.Keeping.{keeps_promise, stopped_trace, unwritten_promise}
use Rattle.mica_cmd.proofs.Settled.{settles_exclusive}
use Rattle.mica_cmd.proofs.Ending.{printed_due, cut_due}
use Rattle.mica_cmd.proofs.exclusive_command.exclusive_command.Goals as goal

pub returns-in-Err : goal.returns-in-Err
returns-in-Err g c = λ net kept link.
    keeps_promise (exclusive_promise c.args.options.now) (settles_exclusive c.args.options.now) _ _ _ (stopped_trace (λ status trace. AtDone (IsExactText c.args.options.now trace) status) _ _ _ _ _ c.in-Err.ensures.stopped) c.in-Err.ensures.reads refl refl refl

pub returns-in-Ok-exclusive : goal.returns-in-Ok-exclusive
returns-in-Ok-exclusive g c =
    let is = ExactReport c.args.options.now c.in-Ok.trace in
    let printed = subst (λ s. PrintsText is (g.K.Sink.taken s) (g.K.Sink.taken c.exclusive.new.sink)) c.in-Ok.ensures.unwritten c.in-Ok-exclusive.ensures.ok in
    λ net kept link. keeps_promise (exclusive_promise c.args.options.now) (settles_exclusive c.args.options.now) _ _ _
    (printed_due (λ status trace. AtDone (IsExactText c.args.options.now trace) status) _ _ _ _ c.in-Ok.trace c.in-Ok.ensures.trace is (λ report exact. (report, exact, refl)) printed) c.in-Ok.ensures.reads refl refl refl

pub returns-in-Err-Write : goal.returns-in-Err-Write
returns-in-Err-Write g c =
    let is = ExactReport c.args.options.now c.in-Ok.trace in
    let fault = c.in-Err-Write.ensures.fault (ap Err c.in-Err-Write.field-0-is) in
    let rose = subst (λ s. Rose (g.K.Sink.faults s) (g.K.Sink.faults c.exclusive.new.sink)) c.in-Ok.ensures.unwritten fault.0 in
    let part = subst (λ s. PrintsPart is (g.K.Sink.taken s) (g.K.Sink.taken c.exclusive.new.sink)) c.in-Ok.ensures.unwritten fault.1 in
    λ net kept link. keeps_promise (exclusive_promise c.args.options.now) (settles_exclusive c.args.options.now) _ _ _
    (cut_due (λ status trace. AtDone (IsExactText c.args.options.now trace) status) _ _ _ _ c.in-Ok.trace c.in-Ok.ensures.trace is (λ report exact. (report, exact, refl)) rose part) c.in-Ok.ensures.reads refl refl refl

pub returns : goal.returns
returns g c =
    let same = c.in-Err-NoMemory.ensures.unwritten (ap Err c.in-Err-NoMemory.field-0-is) ∙ c.in-Ok.ensures.unwritten in
    λ net kept link. unwritten_promise (exclusive_promise c.args.options.now) (settles_exclusive c.args.options.now) _ _ (ap (sink_facts g.K.Sink) same) c.in-Ok.ensures.reads refl refl refl
