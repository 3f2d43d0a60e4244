use Rattle.std.proofs.Common.{◌≡◌, None, IfSome, refl, sym, ap, ◌∙◌, subst}
use Rattle.work_desk.specs.Desk.{doer}
use Rattle.mica_replay.specs.Workers.{OwnerFed}
use Rattle.mica_replay.proofs.crew.work_as_owner.Goals as goal

pub take-requires : goal.take-requires
take-requires g c = subst (λ k. k ≡ doer k.terms None) (sym c.loop.invariant) refl

pub give_back-requires-clause-taken : goal.give_back-requires-clause-taken
give_back-requires-clause-taken g c = λ e. absurd (cc (e, ap (λ k. k.work) c.in-Some-take.ensures.some))

pub give_back-requires-clause-done : goal.give_back-requires-clause-done
give_back-requires-clause-done g c =
    subst (λ k. IfSome k.work (λ work. OwnerFed g.P.Partition.owner g.P.Partition.home work c.run.new.self)) (sym c.in-Some-take.ensures.some) c.run.ensures

pub loop-preserved : goal.loop-preserved
loop-preserved g c = c.give_back.ensures ∙ (λ i. doer (c.in-Some-take.ensures.some i).terms None) ∙ (λ i. doer (c.loop.invariant i).terms None)
