use Rattle.std.proofs.Common.{◌≡◌, ◌≢◌, inl, rules, arith, ap, sym, ◌∙◌, subst, None, Some, IfSome, is_none, [], ◌∷◌}
use Rattle.std.specs.Arc.{arc_value}
use Rattle.atomic_table.specs.Table.{rest}
use Rattle.work_desk.specs.declared.rule.Stage.TheVariants.{Gives, Told}
use Rattle.work_desk.specs.Desk.{giver, has_slot, IsAtDesk}
use Rattle.work_desk.proofs.Steps.{at_work, giver_waits, await_rule, one_slot, slot_is, some_is}
use Rattle.work_desk.proofs.sides.Giver.take_back.Goals as goal

pub loop-init : goal.loop-init
loop-init g c =
    let some : c.self.inside.seat.me.0.work ≢ None = rw c.self.view_is c.requires in
    (giver_waits c.self.inside.seat.me (at_work Gives Told c.self.inside.seat.me.0 c.self.invariant.1 some) some c.self.invariant.2 ∙ (λ i. (giver (c.self.view_is i).terms (c.self.view_is i).work, [])), c.self.invariant.0)

pub load-requires : goal.load-requires
load-requires g c = (search rules, search rules, await_rule g.T.Work.unset g.T.Work.ready g.T.Work.done _ _ c.loop.self-inside.seat.me _ _ c.loop.invariant.0 c.requires)

pub exchange-requires : goal.exchange-requires
exchange-requires g c =
    let took = c.load.ensures.2.0 (omega (arith, c.if-load-eq-IDLE.true)) in
    (search rules, (Some took.0, one_slot c.load.new.seat.me.1 (0, Some took.0) (ap (λ m. m.1) took.2)))

pub invariant_of-self : goal.invariant_of-self
invariant_of-self g c =
    let took = c.load.ensures.2.0 (omega (arith, c.if-load-eq-IDLE.true)) in
    let me : c.exchange.new.seat.me ≡ (giver c.loop.self-inside.seat.me.0.terms None, (0, None) ∷ []) = c.exchange.ensures.3 ∙ (λ i. ((took.2 i).0, (0, None) ∷ rest (took.2 i).1)) in
    (subst (IsAtDesk (arc_value c.loop.self-inside.table).shared.table_id) (sym (c.exchange.ensures.0 ∙ c.load.ensures.0)) c.loop.invariant.1, inl (ap (λ m. m.0.stage) me), ap (λ m. has_slot (is_none m.0.work) m.1) me)

pub returns-then-load-eq-IDLE-clause-idle : goal.returns-then-load-eq-IDLE-clause-idle
returns-then-load-eq-IDLE-clause-idle g c =
    let took = c.load.ensures.2.0 (omega (arith, c.if-load-eq-IDLE.true)) in
    let me : c.exchange.new.seat.me ≡ (giver c.loop.self-inside.seat.me.0.terms None, (0, None) ∷ []) = c.exchange.ensures.3 ∙ (λ i. ((took.2 i).0, (0, None) ∷ rest (took.2 i).1)) in
    ap (λ m. m.0) me ∙ (λ i. giver (c.loop.invariant.0 i).0.terms None)

pub returns-then-load-eq-IDLE-clause-done : goal.returns-then-load-eq-IDLE-clause-done
returns-then-load-eq-IDLE-clause-done g c =
    let took = c.load.ensures.2.0 (omega (arith, c.if-load-eq-IDLE.true)) in
    let same : c.exchange.result ≡ Some took.0 = slot_is c.load.new.seat.me.1 (Some took.0) c.exchange.result c.exchange.ensures.2 (ap (λ m. m.1) took.2) in
    subst (λ u. IfSome c.args.self.now.work (λ work. g.T.Work.done c.args.self.now.terms work u)) (some_is took.0 c.in-Some-exchange.work (sym same ∙ c.in-Some-exchange.is))
    (subst (λ k. IfSome k.work (λ work. g.T.Work.done k.terms work took.0)) (ap (λ m. m.0) c.loop.invariant.0) took.1)

pub park-requires : goal.park-requires
park-requires g c = omega (arith, ap (λ t. t.shared.table_id.words) c.deref-in-loop.ensures, c.loop.invariant.1.one_word)

pub loop-preserved : goal.loop-preserved
loop-preserved g c = (
  c.load.ensures.2.1 (λ h. omega (arith, h, c.if-load-eq-IDLE.false)) ∙ c.loop.invariant.0,
  subst (IsAtDesk (arc_value c.loop.self-inside.table).shared.table_id) (sym c.load.ensures.0) c.loop.invariant.1,
)
