use Rattle.std.proofs.Common.{◌≡◌, ℕ, ◌+◌, ◌<◌, List, length, slice_get, slice_set, None, IfSome, refl, sym, ap, ◌∙◌, subst, arith}
use Rattle.std.proofs.lemmas.List.{length_push}
use Rattle.std.proofs.lemmas.Option.{slice_get_read}
use Rattle.work_desk.specs.declared.rule.DeskSeatView.{DeskSeatView}
use Rattle.work_desk.specs.Desk.{giver}
use Rattle.work_desk.specs.Rows.{free_again}
use Rattle.work_desk.proofs.Steps.{some_is}
use Rattle.work_desk.proofs.RowSteps.{TakenTo, Next, next_of, long_of, all_taken}
use Rattle.work_desk.proofs.rows.take_all_back.Given.{Over}
use Rattle.work_desk.proofs.rows.take_all_back.Goals.{After-index_mut-giver}
use Rattle.work_desk.proofs.rows.take_all_back.Goals as goal

module _ (g : Over) (c : After-index_mut-giver g) where
  below : c.loop-p.p < length c.loop-p.givers.items
  below = omega (arith, c.loop-p-test.true, c.loop-p.auto.p-end, c.len-p-end.ensures, c.args.givers.now.ok, long_of g.T.Work.done c.args.givers.now.items c.loop-p.givers.items c.loop-p.works.items c.loop-p.invariant.taken)

  abbrev next : Next g.T.Work.done c.args.givers.now.items c.loop-p.givers.items c.loop-p.works.items
  next = next_of g.T.Work.done c.args.givers.now.items c.loop-p.givers.items c.loop-p.works.items c.loop-p.invariant.taken (omega (arith, below, c.loop-p.invariant.many))

  at_next : c.index_mut-giver.result.now ≡ next.at
  at_next = some_is c.index_mut-giver.result.now next.at
      (sym (slice_get_read c.loop-p.givers.items (length c.loop-p.givers.items) c.loop-p.p c.index_mut-giver.result.now refl below c.index_mut-giver.ensures.value)
      ∙ ap (slice_get c.loop-p.givers.items) (sym c.loop-p.invariant.many) ∙ next.is)

pub take_back-work-requires : goal.take_back-work-requires
take_back-work-requires g c =
    let z = (goal.at.take_back-work-requires g c).After-index_mut-giver in
    λ e. (next g z).work (ap (λ k. k.work) (sym (at_next g z)) ∙ e)

pub loop-p-preserved : goal.loop-p-preserved
loop-p-preserved g c =
    let z = (goal.at.loop-p-preserved g c).After-index_mut-giver in
    let at = next g z in
    let work = c.take_back-work.result in
    let new : free_again at.at ≡ c.take_back-work.new.self = sym (c.take_back-work.ensures.idle ∙ (λ i. giver (at_next g z i).terms None)) in
    let did : IfSome at.at.work (λ t. g.T.Work.done at.at.terms t work) = subst (λ k. IfSome k.work (λ t. g.T.Work.done k.terms t work)) (at_next g z) c.take_back-work.ensures.done in
    record {
      taken = subst (λ (y : ℕ × DeskSeatView g.row.T.Denot g.row.S.Denot × List g.row.T.Denot). TakenTo g.T.Work.done c.args.givers.now.items (slice_set c.loop-p.givers.items y.0 y.1) y.2)
          (λ i. (c.loop-p.invariant.many i, new i, sym c.push_reserved.ensures.items i)) (at.goes work did);
      many = ap length c.push_reserved.ensures.items ∙ length_push c.loop-p.works.items work ∙ ap (λ n. n + 1) c.loop-p.invariant.many;
      room = c.push_reserved.ensures.capacity ∙ c.loop-p.invariant.room;
    }

pub returns-clause-back : goal.returns-clause-back
returns-clause-back g c =
    (all_taken g.T.Work.done c.args.givers.now.items c.loop-p.givers.items c.loop-p.works.items c.loop-p.invariant.taken
    (omega (arith, c.loop-p-test.false, c.loop-p.auto.p-end, c.len-p-end.ensures, c.args.givers.now.ok, c.loop-p.invariant.many))).0

pub returns-clause-free : goal.returns-clause-free
returns-clause-free g c =
    (all_taken g.T.Work.done c.args.givers.now.items c.loop-p.givers.items c.loop-p.works.items c.loop-p.invariant.taken
    (omega (arith, c.loop-p-test.false, c.loop-p.auto.p-end, c.len-p-end.ensures, c.args.givers.now.ok, c.loop-p.invariant.many))).1
