use Rattle.std.proofs.Common.{refl, ◌∙◌, subst, arith}
use Rattle.partition_model.specs.declared.options.Options.{Options}
use Rattle.command_answers.specs.Sweeps.{SweepsBy}
use Rattle.command_answers.proofs.Sweeping.{none_swept, swept_then}
use Rattle.command_answers.proofs.keeping.keep_in.Goals as goal

pub loop-looked-init : goal.loop-looked-init
loop-looked-init g c =
    let F = g.F.Front in record {
      swept = λ base second. none_swept (F.options c.args.front.now) F.is_alone base second 0 (F.sessions c.args.front.now) (F.left c.args.front.now);
      few = omega arith;
      left = omega arith;
      options = refl;
      number = refl;
      stands = refl;
    }

pub loop-looked-preserved : goal.loop-looked-preserved
loop-looked-preserved g c =
    let F = g.F.Front in
    let inv = c.loop-looked.invariant in
    let one = c.keep_item.ensures in
    let left = one.left in record {
      swept = λ base second.
          swept_then (F.options c.args.front.now) F.is_alone base second (omega arith) (inv.swept base second)
          (subst (λ (o : Options). SweepsBy o F.is_alone base second 1 (F.sessions c.loop-looked.front) (F.left c.loop-looked.front) (F.sessions c.keep_item.new.front) (F.left c.keep_item.new.front)) inv.options (one.swept base second));
      few = let less = c.loop-looked-test.true in omega (arith, less);
      left = omega (arith, left, inv.left);
      options = one.options ∙ inv.options;
      number = one.number ∙ inv.number;
      stands = one.stands ∙ inv.stands;
    }
