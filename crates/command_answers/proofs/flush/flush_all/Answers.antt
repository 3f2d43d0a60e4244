use Rattle.std.proofs.Common.{◌&&◌, ◌+◌, Bool, refl, sym, ◌∙◌, subst, arith}
use Rattle.partition_model.specs.declared.options.Options.{Options}
use Rattle.fronts.specs.Session.{Answers}
use Rattle.command_answers.specs.FlushAnswers.{FlushesOne}
use Rattle.command_answers.proofs.Flushing.{Flushed, none_flushed, flushed_more, flushes_few}
use Rattle.command_answers.proofs.flush.flush_all.Goals as goal

pub loop-partition-init : goal.loop-partition-init
loop-partition-init g c =
    let F = g.F.Front in
    record { flushed = none_flushed (F.options c.args.front.now) c.args.flush F.is_alone (F.sessions c.args.front.now); left = omega arith; options = refl; number = refl; stands = refl }

pub loop-partition-preserved : goal.loop-partition-preserved
loop-partition-preserved g c =
    let F = g.F.Front in
    let inv = c.loop-partition.invariant in
    let options = F.options c.args.front.now in
    let between = F.sessions c.loop-partition.front in
    let new = F.sessions c.flush_one-one.new.front in
    let one = c.flush_one-one.ensures.flushed in
    let here = subst (λ (o : Options). FlushesOne o c.args.flush c.loop-partition.partition one.0 × Answers o F.is_alone between one.0 new) inv.options (one.1, one.2) in
    let left = c.flush_one-one.ensures.left in record {
      flushed = subst (λ (t : Bool). Flushed options c.args.flush F.is_alone (F.sessions c.args.front.now) new (c.loop-partition.partition + 1) (c.loop-partition.took && t)) (sym one.3)
          (flushed_more options c.args.flush F.is_alone (F.sessions c.args.front.now) between new c.loop-partition.partition c.loop-partition.took one.0 inv.flushed here.0 here.1);
      left = omega (arith, left, inv.left);
      options = c.flush_one-one.ensures.options ∙ inv.options;
      number = c.flush_one-one.ensures.number ∙ inv.number;
      stands = c.flush_one-one.ensures.stands ∙ inv.stands;
    }

pub returns-clause-flushed : goal.returns-clause-flushed
returns-clause-flushed g c =
    let F = g.F.Front in
    let inv = c.loop-partition.invariant in
    let f = inv.flushed in (
      f.answers,
      f.in_order,
      f.flushes,
      f.many ∙ omega (arith, c.loop-partition-test.false, c.loop-partition.auto.partition-end),
      f.took_all,
      flushes_few (F.left c.args.front.now) (F.left c.loop-partition.front) f inv.left,
    )
