use Rattle.std.proofs.Common.{◌∙◌, inr, refl}
use Rattle.mica_cmd.specs.declared.status.Status.TheVariants.{Done}
use Rattle.mica_cmd.specs.Promises.{gen_promise}
use Rattle.mica_cmd.proofs.Keeping.{keeps_promise, unwritten_promise}
use Rattle.mica_cmd.proofs.Settled.{settles_gen}
use Rattle.mica_cmd.proofs.gen_command.gen_command.Goals as goal

pub returns-in-Ok : goal.returns-in-Ok
returns-in-Ok g c = λ source net kept link.
    keeps_promise (gen_promise c.args.generator.now) (settles_gen c.args.generator.now) _ _ _
    (inr (Done, c.as_slice.result.now, c.as_slice.ensures.value ∙ c.in-Ok.ensures, c.write_due.ensures)) refl refl refl refl

pub returns-in-Err : goal.returns-in-Err
returns-in-Err g c = λ source net kept link. unwritten_promise (gen_promise c.args.generator.now) (settles_gen c.args.generator.now) _ _ refl refl refl refl refl
