use Rattle.std.proofs.Common.{refl, ◌∙◌, subst, arith}
use Rattle.partition_model.specs.declared.options.Options.{Options}
use Rattle.command_answers.specs.Sweeps.{SweepsBy}
use Rattle.command_answers.proofs.Sweeping.{none_swept, swept_then}
use Rattle.command_answers.proofs.sweeper.sweep_places.Goals as goal

pub loop-looked-init : goal.loop-looked-init
loop-looked-init g c =
    let F = g.F.Front in record {
      swept = none_swept (F.options c.args.front.now) F.is_alone c.args.numbering.base c.args.second 0 (F.sessions c.args.front.now) (F.left c.args.front.now);
      few = omega arith;
      left = omega arith;
      options = refl;
      number = refl;
      stands = refl;
    }

pub loop-looked-preserved : goal.loop-looked-preserved
loop-looked-preserved g c =
    let F = g.F.Front in
    let inv = c.loop-looked.invariant in
    let one = c.sweep_place-gone.ensures in
    let left = one.left in
    let here = subst (λ (o : Options). SweepsBy o F.is_alone c.args.numbering.base c.args.second 1 (F.sessions c.loop-looked.front) (F.left c.loop-looked.front)
    (F.sessions c.sweep_place-gone.new.front) (F.left c.sweep_place-gone.new.front)) inv.options one.swept in record {
      swept = swept_then (F.options c.args.front.now) F.is_alone c.args.numbering.base c.args.second (omega arith) inv.swept here;
      few = let less = c.loop-looked-test.true in omega (arith, less);
      left = omega (arith, left, inv.left);
      options = one.options ∙ inv.options;
      number = one.number ∙ inv.number;
      stands = one.stands ∙ inv.stands;
    }
