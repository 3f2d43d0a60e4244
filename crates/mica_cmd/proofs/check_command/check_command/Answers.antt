use Rattle.std.proofs.Common.{List, ℕ, refl, ap, subst}
use Rattle.server_words.specs.Output.{sink_facts, with_line_feed}
use Rattle.mica_cmd.specs.Promise.{IsTold}
use Rattle.mica_cmd.specs.Findings.{Finds, finding_text, status_of}
use Rattle.mica_cmd.proofs.Checking.{check_stopped, check_told, check_unwritten}
use Rattle.mica_cmd.proofs.check_command.check_command.Goals as goal

pub returns-in-Err : goal.returns-in-Err
returns-in-Err g c = λ net kept link. check_stopped c.args.options.now c.requires.valid _ _ _ c.in-Err.ensures.stopped c.in-Err.ensures.reads refl refl refl

pub returns-in-Ok-find : goal.returns-in-Ok-find
returns-in-Ok-find g c =
    let finding = c.in-Ok-find.finding in
    let facts = sink_facts g.K.Sink in
    let finds = subst (λ (bytes : List ℕ). Finds c.args.options.now bytes finding) c.as_slice.ensures.value c.in-Ok-find.ensures in
    let told = subst (λ s. IsTold (status_of finding) (with_line_feed (finding_text finding)) (facts s) (facts c.tell.new.sink) c.tell.result) c.in-Ok.ensures.unwritten c.tell.ensures in
    λ net kept link. check_told c.args.options.now c.requires.valid _ _ c.in-Ok.bytes.items finding _ c.in-Ok.ensures.all finds told c.in-Ok.ensures.reads refl refl refl

pub returns : goal.returns
returns g c = λ net kept link. check_unwritten c.args.options.now c.requires.valid _ _ (ap (sink_facts g.K.Sink) c.in-Ok.ensures.unwritten) c.in-Ok.ensures.reads refl refl refl
