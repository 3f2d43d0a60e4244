use Rattle.std.proofs.Common.{subst, arith}
use Rattle.partition_model.specs.declared.options.Options.{Options}
use Rattle.command_answers.specs.Sweeps.{SweepsBy}
use Rattle.command_answers.proofs.Sweeping.{swept_then}
use Rattle.command_answers.proofs.sweeper.sweep.Goals as goal

pub returns-clause-swept : goal.returns-clause-swept
returns-clause-swept g c =
    let F = g.F.Front in
    let then = c.keep_read-kept.new.front in
    let now = c.sweep_places-looked.new in
    let first = c.keep_read-kept.ensures.swept c.args.numbering.base c.args.second in
    swept_then (F.options c.args.front.now) F.is_alone c.args.numbering.base c.args.second (omega (arith, c.keep_read-kept.ensures.few, c.sweep_places-looked.ensures.few)) first
    (subst (λ (o : Options). SweepsBy o F.is_alone c.args.numbering.base c.args.second c.sweep_places-looked.result (F.sessions then) (F.left then) (F.sessions now.front) (F.left now.front)) c.keep_read-kept.ensures.options
    c.sweep_places-looked.ensures.swept)
