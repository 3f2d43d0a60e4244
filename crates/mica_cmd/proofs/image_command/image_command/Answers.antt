use Rattle.std.proofs.Common.{sym, inr, refl, ap, subst}
use Rattle.mica_cmd.specs.declared.status.Status.TheVariants.{Done}
use Rattle.server_words.specs.Output.{sink_facts}
use Rattle.mica_cmd.specs.Promise.{IsWritten}
use Rattle.mica_cmd.specs.Input.{AtDone}
use Rattle.mica_cmd.specs.Promises.{image_promise, IsImageText}
use Rattle.mica_cmd.proofs.Keeping.{keeps_promise, stopped_trace, unwritten_promise}
use Rattle.mica_cmd.proofs.Settled.{settles_image}
use Rattle.mica_cmd.proofs.Ending.{done_due}
use Rattle.mica_cmd.proofs.image_command.image_command.Goals as goal

pub returns-in-Err : goal.returns-in-Err
returns-in-Err g c = λ net kept link.
    keeps_promise (image_promise c.args.options.now) (settles_image c.args.options.now) _ _ _ (stopped_trace (λ status trace. AtDone (IsImageText c.args.options.now trace) status) _ _ _ _ _ c.in-Err.ensures.stopped) c.in-Err.ensures.reads refl refl refl

pub returns-in-Ok-image_text : goal.returns-in-Ok-image_text
returns-in-Ok-image_text g c =
    let facts = sink_facts g.K.Sink in
    let is = subst (IsImageText c.args.options.now c.in-Ok.trace) (sym c.bytes.ensures) c.in-Ok-image_text.ensures in
    let written = subst (λ s. IsWritten Done c.bytes.result.now (facts s) (facts c.write_due.new.sink) c.write_due.result) c.in-Ok.ensures.unwritten c.write_due.ensures in
    λ net kept link. keeps_promise (image_promise c.args.options.now) (settles_image c.args.options.now) _ _ _
    (done_due (λ status trace. AtDone (IsImageText c.args.options.now trace) status) _ _ _ _ c.in-Ok.trace c.in-Ok.ensures.trace c.bytes.result.now _ is (inr written)) c.in-Ok.ensures.reads refl refl refl

pub returns : goal.returns
returns g c = λ net kept link.
    unwritten_promise (image_promise c.args.options.now) (settles_image c.args.options.now) _ _ (ap (sink_facts g.K.Sink) c.in-Ok.ensures.unwritten) c.in-Ok.ensures.reads refl refl refl
