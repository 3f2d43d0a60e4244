use Rattle.std.proofs.Common.{refl, ◌∙◌, subst, arith}
use Rattle.partition_model.specs.declared.options.Options.{Options}
use Rattle.command_answers.specs.Sweeps.{SweepsBy}
use Rattle.command_answers.proofs.Sweeping.{none_swept, swept_then}
use Rattle.command_answers.proofs.keeping.keep_read.Goals as goal

pub loop-at-init : goal.loop-at-init
loop-at-init g c =
    let F = g.F.Front in record {
      swept = λ base second. none_swept (F.options c.args.front.now) F.is_alone base second 0 (F.sessions c.args.front.now) (F.left c.args.front.now);
      few = omega arith;
      left = omega arith;
      options = refl;
      number = refl;
      stands = refl;
    }

pub loop-at-preserved : goal.loop-at-preserved
loop-at-preserved g c =
    let F = g.F.Front in
    let inv = c.loop-at.invariant in
    let one = c.keep_written-looked.ensures in
    let left = one.left in
    let few = one.few in record {
      swept = λ base second.
          swept_then (F.options c.args.front.now) F.is_alone base second (omega arith) (inv.swept base second)
          (subst (λ (o : Options). SweepsBy o F.is_alone base second c.keep_written-looked.result (F.sessions c.loop-at.front) (F.left c.loop-at.front) (F.sessions c.keep_written-looked.new.front) (F.left c.keep_written-looked.new.front)) inv.options (one.swept base second));
      few = omega (arith, few, inv.few);
      left = omega (arith, left, inv.left);
      options = one.options ∙ inv.options;
      number = one.number ∙ inv.number;
      stands = one.stands ∙ inv.stands;
    }
