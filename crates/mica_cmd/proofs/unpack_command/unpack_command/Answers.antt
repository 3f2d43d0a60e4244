use Rattle.std.proofs.Common.{◌≡◌, ◌⊎◌, List, ℕ, Some, refl, subst}
use Rattle.store_image.specs.declared.fault.ImageFault.TheVariants.{NoMemory as NoSpace}
use Rattle.store_image.specs.ImageGrammar.{SpellsImage, first_fault}
use Rattle.store_image.specs.ImageLines.{put_lines}
use Rattle.mica_trace.specs.TraceGrammar.{trace_text}
use Rattle.mica_cmd.specs.declared.status.Status.TheVariants.{Done}
use Rattle.server_words.specs.Output.{sink_facts}
use Rattle.mica_cmd.specs.Promise.{IsTold}
use Rattle.mica_cmd.specs.Promises.{unpack_promise, IsDueOfUnpack, IsRefusedImage}
use Rattle.mica_cmd.proofs.Keeping.{keeps_promise, stopped_input}
use Rattle.mica_cmd.proofs.Settled.{settles_unpack}
use Rattle.mica_cmd.proofs.Imaging.{pairs_due, image_refused_due}
use Rattle.mica_cmd.proofs.unpack_command.unpack_command.Goals as goal

pub returns-in-Err : goal.returns-in-Err
returns-in-Err g c = λ net kept link.
    keeps_promise unpack_promise settles_unpack _ _ _ (stopped_input IsDueOfUnpack _ _ _ _ _ c.in-Err.ensures.stopped) c.in-Err.ensures.reads refl refl refl

pub returns-in-Ok-read_image : goal.returns-in-Ok-read_image
returns-in-Ok-read_image g c =
    let facts = sink_facts g.K.Sink in
    let image = c.in-Ok-read_image.image in
    let is = subst (λ (bytes : List ℕ). SpellsImage bytes image) c.as_slice.ensures.value c.in-Ok-read_image.ensures.image in
    let told = subst (λ s. IsTold Done (trace_text (put_lines image)) (facts s) (facts c.print_pairs.new.sink) c.print_pairs.result) c.in-Ok.ensures.unwritten c.print_pairs.ensures in
    λ net kept link. keeps_promise unpack_promise settles_unpack _ _ _ (pairs_due _ _ _ _ _ c.in-Ok.bytes.items image c.in-Ok.ensures.all is told) c.in-Ok.ensures.reads refl refl refl

pub returns : goal.returns
returns g c =
    let facts = sink_facts g.K.Sink in
    let fault = c.in-Err-read_image.fault in
    let is = subst (λ (bytes : List ℕ). (fault ≡ NoSpace) ⊎ (first_fault bytes ≡ Some fault)) c.as_slice.ensures.value c.in-Err-read_image.ensures.fault in
    let refused = subst (λ s. IsRefusedImage fault (facts s) (facts c.refuse_image.new.sink) c.refuse_image.result) c.in-Ok.ensures.unwritten c.refuse_image.ensures in
    λ net kept link. keeps_promise unpack_promise settles_unpack _ _ _ (image_refused_due _ _ _ _ _ c.in-Ok.bytes.items fault c.in-Ok.ensures.all is refused) c.in-Ok.ensures.reads refl refl refl
