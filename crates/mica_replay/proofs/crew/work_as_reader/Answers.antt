use Rattle.std.proofs.Common.{◌≡◌, None, IfSome, refl, sym, ap, ◌∙◌, subst}
use Rattle.partition_table.specs.Seats.{reader_state, reader_home}
use Rattle.work_desk.specs.Desk.{doer}
use Rattle.mica_replay.specs.Workers.{IsReadyReader, ReaderRan}
use Rattle.mica_replay.proofs.crew.work_as_reader.Goals as goal

pub take-requires : goal.take-requires
take-requires g c = subst (λ k. k ≡ doer k.terms None) (sym c.loop.invariant) refl

pub run-requires-clause-ready : goal.run-requires-clause-ready
run-requires-clause-ready g c κs within = subst (λ k. IsReadyReader reader_state k.terms.lines k.terms.options c.in-Some-take.work) c.loop.invariant c.in-Some-take.ensures.ready

pub give_back-requires-clause-taken : goal.give_back-requires-clause-taken
give_back-requires-clause-taken g c = λ e. absurd (cc (e, ap (λ k. k.work) c.in-Some-take.ensures.some))

pub give_back-requires-clause-done : goal.give_back-requires-clause-done
give_back-requires-clause-done g c =
    subst (λ k. IfSome k.work (λ work. ReaderRan reader_state reader_home k.terms.lines k.terms.options work c.run.new.self)) (sym c.in-Some-take.ensures.some)
    (subst (λ k. ReaderRan reader_state reader_home k.terms.lines k.terms.options c.in-Some-take.work c.run.new.self) (sym c.loop.invariant) c.run.ensures)

pub loop-preserved : goal.loop-preserved
loop-preserved g c = c.give_back.ensures ∙ (λ i. doer (c.in-Some-take.ensures.some i).terms None) ∙ (λ i. doer (c.loop.invariant i).terms None)
