use Rattle.std.proofs.Common.{◌≡◌, ℕ, ◌∷◌, ◌++◌, [], length, slice_get, slice_set, None, Some, refl, sym, ap, ◌∙◌, subst, arith}
use Rattle.std.specs.Option.{option_to_list}
use Rattle.std.proofs.lemmas.Option.{slice_get_read, slice_get_within}
use Rattle.work_desk.specs.declared.rule.DeskSeatView.{DeskSeatView}
use Rattle.work_desk.specs.Desk.{giver}
use Rattle.work_desk.specs.Rows.{MayHand, handed}
use Rattle.work_desk.proofs.Steps.{some_is}
use Rattle.work_desk.proofs.RowSteps.{Last, last_of}
use Rattle.work_desk.proofs.rows.hand_all.Given.{Over}
use Rattle.work_desk.proofs.rows.hand_all.Goals.{After-index_mut-giver}
use Rattle.work_desk.proofs.rows.hand_all.Goals as goal

module _ (g : Over) (c : After-index_mut-giver g) where
  items_are : c.loop-work.works.items ≡ c.pop.new.self.items ++ c.in-Some.work ∷ []
  items_are = c.pop.ensures.items ∙ ap (λ o. c.pop.new.self.items ++ option_to_list o) c.in-Some.is

  abbrev last : Last g.T.Work.ready c.pop.new.self.items c.in-Some.work c.loop-work.givers.items
  last = last_of g.T.Work.ready c.pop.new.self.items c.in-Some.work c.loop-work.givers.items (subst (λ l. MayHand g.T.Work.ready l c.loop-work.givers.items) items_are c.loop-work.invariant.may)

  at_end : c.len-at.result ≡ length c.pop.new.self.items
  at_end = omega (arith, c.len-at.ensures, c.pop.new.self.ok)

  at_last : c.index_mut-giver.result.now ≡ last.at
  at_last = some_is c.index_mut-giver.result.now last.at
      (sym (slice_get_read c.loop-work.givers.items (length c.loop-work.givers.items) c.len-at.result c.index_mut-giver.result.now refl
      (omega (arith, at_end, slice_get_within c.loop-work.givers.items (length c.pop.new.self.items) last.at last.is)) c.index_mut-giver.ensures.value)
      ∙ ap (slice_get c.loop-work.givers.items) at_end ∙ last.is)

pub index_mut-giver-requires : goal.index_mut-giver-requires
index_mut-giver-requires g c =
    let rest = c.pop.new.self.items in
    let gs = c.loop-work.givers.items in
    let may : MayHand g.T.Work.ready (rest ++ c.in-Some.work ∷ []) gs = subst (λ l. MayHand g.T.Work.ready l gs) (c.pop.ensures.items ∙ ap (λ o. rest ++ option_to_list o) c.in-Some.is) c.loop-work.invariant.may in
    let last = last_of g.T.Work.ready rest c.in-Some.work gs may in
    omega (arith, c.len-at.ensures, c.pop.new.self.ok, slice_get_within gs (length rest) last.at last.is, c.loop-work.givers.ok)

pub hand-requires-clause-free : goal.hand-requires-clause-free
hand-requires-clause-free g c =
    let z = (goal.at.hand-requires-clause-free g c).After-index_mut-giver in
    subst (λ k. k ≡ giver k.terms None) (sym (at_last g z)) (last g z).free

pub hand-requires-clause-ready : goal.hand-requires-clause-ready
hand-requires-clause-ready g c =
    let z = (goal.at.hand-requires-clause-ready g c).After-index_mut-giver in
    subst (λ k. g.T.Work.ready k.terms c.in-Some.work) (sym (at_last g z)) (last g z).may

pub loop-work-preserved : goal.loop-work-preserved
loop-work-preserved g c =
    let z = (goal.at.loop-work-preserved g c).After-index_mut-giver in
    let at = last g z in
    let here : length c.pop.new.self.items ≡ c.len-at.result = sym (at_end g z) in
    let new : giver at.at.terms (Some c.in-Some.work) ≡ c.hand.new.self = sym (c.hand.ensures ∙ (λ i. giver (at_last g z i).terms (Some c.in-Some.work))) in
    record {
      may = subst (λ (y : ℕ × DeskSeatView g.row.T.Denot g.row.S.Denot). MayHand g.T.Work.ready c.pop.new.self.items (slice_set c.loop-work.givers.items y.0 y.1)) (λ i. (here i, new i)) at.left;
      same = sym (λ i. handed c.pop.new.self.items (slice_set c.loop-work.givers.items (here i) (new i))) ∙ at.same ∙ ap (λ l. handed l c.loop-work.givers.items) (sym (items_are g z)) ∙ c.loop-work.invariant.same;
      room = c.pop.ensures.capacity ∙ c.loop-work.invariant.room;
    }
