use Rattle.std.proofs.Common.{◌≡◌, inl, inr, rules, arith, ap, sym, ◌∙◌, subst, None, Some, is_some, [], ◌∷◌}
use Rattle.std.specs.Arc.{arc_value}
use Rattle.atomic_table.specs.Table.{rest}
use Rattle.work_desk.specs.Desk.{doer, dismissed, has_slot, IsAtDesk}
use Rattle.work_desk.specs.Plays.{Seated}
use Rattle.work_desk.proofs.Steps.{doer_idle, look_rule, one_slot, slot_is}
use Rattle.work_desk.proofs.sides.Doer.take.Goals as goal

pub loop-init : goal.loop-init
loop-init g c =
    let free = c.self.view_is ∙ c.requires in
    (doer_idle c.self.inside.seat.me (ap (λ k. k.stage) free) (ap (λ k. k.work) free) c.self.invariant.2 ∙ (λ i. (doer (c.self.view_is i).terms None, [])), c.self.invariant.0)

pub load-found-requires : goal.load-found-requires
load-found-requires g c = (search rules, search rules, look_rule g.T.Work.unset g.T.Work.ready g.T.Work.done _ _ c.loop.self-inside.seat.me _ c.loop.invariant.0)

pub exchange-requires : goal.exchange-requires
exchange-requires g c =
    let took = c.load-found.ensures.2.0 (omega (arith, c.if-found-eq-HANDED.true)) in
    (search rules, (Some took.0, one_slot c.load-found.new.seat.me.1 (0, Some took.0) (ap (λ m. m.1) took.2)))

pub invariant_of-self : goal.invariant_of-self
invariant_of-self g c =
    let took = c.load-found.ensures.2.0 (omega (arith, c.if-found-eq-HANDED.true)) in
    let me : c.exchange.new.seat.me ≡ (doer c.loop.self-inside.seat.me.0.terms (Some took.0), (0, None) ∷ []) = c.exchange.ensures.3 ∙ (λ i. ((took.2 i).0, (0, None) ∷ rest (took.2 i).1)) in
    (subst (IsAtDesk (arc_value c.loop.self-inside.table).shared.table_id) (sym (c.exchange.ensures.0 ∙ c.load-found.ensures.0)) c.loop.invariant.1, inl (ap (λ m. m.0.stage) me), ap (λ m. has_slot (is_some m.0.work) m.1) me)

pub returns-then-found-eq-HANDED-clause-some : goal.returns-then-found-eq-HANDED-clause-some
returns-then-found-eq-HANDED-clause-some g c =
    let took = c.load-found.ensures.2.0 (omega (arith, c.if-found-eq-HANDED.true)) in
    let me : c.exchange.new.seat.me ≡ (doer c.loop.self-inside.seat.me.0.terms (Some took.0), (0, None) ∷ []) = c.exchange.ensures.3 ∙ (λ i. ((took.2 i).0, (0, None) ∷ rest (took.2 i).1)) in
    rw (slot_is c.load-found.new.seat.me.1 (Some took.0) c.exchange.result c.exchange.ensures.2 (ap (λ m. m.1) took.2)) (ap (λ m. m.0) me ∙ (λ i. doer (c.loop.invariant.0 i).0.terms (Some took.0)))

pub returns-then-found-eq-HANDED-clause-ready : goal.returns-then-found-eq-HANDED-clause-ready
returns-then-found-eq-HANDED-clause-ready g c =
    let took = c.load-found.ensures.2.0 (omega (arith, c.if-found-eq-HANDED.true)) in
    rw (slot_is c.load-found.new.seat.me.1 (Some took.0) c.exchange.result c.exchange.ensures.2 (ap (λ m. m.1) took.2)) (subst (λ s. g.T.Work.ready s took.0) (ap (λ m. m.0.terms) c.loop.invariant.0) took.1)

pub invariant_of-self-then-found-eq-END : goal.invariant_of-self-then-found-eq-END
invariant_of-self-then-found-eq-END g c =
    let found = c.load-found.ensures.2.1 (omega (arith, c.if-found-eq-END.true)) in
    let me : c.load-found.new.seat.me ≡ (dismissed c.loop.self-inside.seat.me.0.terms, []) = found ∙ ap (λ (m : Seated g.row.T.Denot g.row.S.Denot). (dismissed c.loop.self-inside.seat.me.0.terms, m.1)) c.loop.invariant.0 in
    (subst (IsAtDesk (arc_value c.loop.self-inside.table).shared.table_id) (sym c.load-found.ensures.0) c.loop.invariant.1, inr (ap (λ m. m.0.stage) me, ap (λ m. m.0.work) me), ap (λ m. has_slot (is_some m.0.work) m.1) me)

pub returns-then-found-eq-END-clause-none : goal.returns-then-found-eq-END-clause-none
returns-then-found-eq-END-clause-none g c = λ _. ap (λ m. m.0) (c.load-found.ensures.2.1 (omega (arith, c.if-found-eq-END.true))) ∙ ap (λ (m : Seated g.row.T.Denot g.row.S.Denot). dismissed m.0.terms) c.loop.invariant.0

pub park-requires : goal.park-requires
park-requires g c = omega (arith, ap (λ t. t.shared.table_id.words) c.deref-in-loop.ensures, c.loop.invariant.1.one_word)

pub loop-preserved : goal.loop-preserved
loop-preserved g c = (
  c.load-found.ensures.2.2 (λ h. omega (arith, h, c.if-found-eq-HANDED.false)) (λ h. omega (arith, h, c.if-found-eq-END.false)) ∙ c.loop.invariant.0,
  subst (IsAtDesk (arc_value c.loop.self-inside.table).shared.table_id) (sym c.load-found.ensures.0) c.loop.invariant.1,
)
