use Rattle.std.proofs.Common.{◌∙◌, inl, Err, refl, sym, ap, subst}
use Rattle.mica_replay.specs.Printed.{PrintsReport, PrintsPart}
use Rattle.outside.specs.Faults.{Rose}
use Rattle.server_words.specs.Output.{sink_facts}
use Rattle.mica_cmd.specs.Promises.{replay_promise}
use Rattle.mica_cmd.proofs.Keeping.{unwritten_promise}
use Rattle.mica_cmd.proofs.Settled.{settles_replay}
use Rattle.mica_cmd.proofs.Ending.{replay_stopped, replay_done, replay_cut}
use Rattle.mica_cmd.proofs.replay_command.replay_command.Goals as goal

pub returns-in-Err : goal.returns-in-Err
returns-in-Err g c = λ net link. replay_stopped c.args.options.now _ _ _ c.in-Err.ensures.stopped c.in-Err.ensures.reads refl refl refl

pub returns-in-Ok-replay : goal.returns-in-Ok-replay
returns-in-Ok-replay g c =
    let printed = subst (λ s. PrintsReport c.args.options.now c.in-Ok.trace (g.K.Sink.taken s) (g.K.Sink.taken c.replay.new.sink) c.replay.new.tables) c.in-Ok.ensures.unwritten c.in-Ok-replay.ensures.ok in
    λ net link. replay_done c.args.options.now _ _ c.in-Ok.trace c.in-Ok.ensures.trace printed c.in-Ok.ensures.reads refl refl

pub returns-in-Err-Write : goal.returns-in-Err-Write
returns-in-Err-Write g c =
    let fault = c.in-Err-Write.ensures.fault (ap Err c.in-Err-Write.field-0-is) in
    let rose = subst (λ s. Rose (g.K.Sink.faults s) (g.K.Sink.faults c.replay.new.sink)) c.in-Ok.ensures.unwritten fault.0 in
    let part = subst (λ s. PrintsPart c.args.options.now c.in-Ok.trace (g.K.Sink.taken s) (g.K.Sink.taken c.replay.new.sink) c.replay.new.tables) c.in-Ok.ensures.unwritten fault.1 in
    λ net link. replay_cut c.args.options.now _ _ c.in-Ok.trace c.in-Ok.ensures.trace rose part c.in-Ok.ensures.reads refl refl

pub returns : goal.returns
returns g c =
    let nothing = c.in-Err-NoMemory.ensures.unwritten (ap Err c.in-Err-NoMemory.field-0-is) in
    let same = nothing.0 ∙ c.in-Ok.ensures.unwritten in
    λ net link. unwritten_promise (replay_promise c.args.options.now) (settles_replay c.args.options.now) _ _ (ap (sink_facts g.K.Sink) same) c.in-Ok.ensures.reads refl (inl (nothing.1 ∙ sym c.requires.tables)) refl
