use Rattle.std.proofs.Common.{◌↔◌, ◌<◌, ◌≤◌, ◌∙◌, IsTrue, refl, sym, subst, arith, inl, inr}
use Rattle.std.specs.Prelude.{IsSomeAnd}
use Rattle.std.proofs.lemmas.Bool.{false≢true}
use Rattle.mica_words.specs.Item.{item_size}
use Rattle.partition_model.specs.Write.{write_of}
use Rattle.mica_model.specs.CellTable.{LacksSpare, Table}
use Rattle.partition_model.specs.StoreStep.{IsWorn, NeedsSpare, NeedsBlock}
use Rattle.mica_model.specs.Machine.{Machine}
use Rattle.partition_model.specs.History.{Allows, accepted_in}
use Rattle.mica_model.proofs.MachineSteps.{store_of}
use Rattle.mica_model.proofs.StoreReplies.{of_lack, of_others, replaces}
use Rattle.mica_model.proofs.store_machine.StoreMachine.allows_value.Goals as goal
use Rattle.mica_model.proofs.store_machine.StoreMachine.allows_value.Goals.{in_default-via-in-Some-2+else-size-cell, in_default-via-in-None+else-lacks_spare}

pub returns-in-None : goal.returns-in-None
returns-in-None c =
    let a = c.self.inside in
    let key = c.args.key.now in
    let less = subst (λ (m : Machine). accepted_in m.state < m.options.wear) (sym c.self.view_is) c.requires.alive in
    let alive : ¬ (IsWorn a.options (store_of a)) = λ worn. let old : a.options.wear ≤ a.accepted = worn in omega arith in
    let here = subst (λ (t : Table). LacksSpare t key a.options.spares) (λ i. record { hashing = c.self.invariant.hashing i; buckets = c.self.invariant.buckets i; cells = a.table.cells }) (c.if-lacks_spare.ensures.0 refl) in
    let needs : NeedsSpare a.options (store_of a) key =
    record { is_new = sym c.in-None.ensures; some = here.some; full = here.full; none_left = here.none_left } in
    let law = of_lack a.options (store_of a) key c.args.value.now alive c.args.op c.requires.op needs c.args.outcome in
    subst (λ (m : Machine). IsTrue c.are_same-in-None.result ↔ Allows m.options m.state (write_of c.args.op key c.args.value.now) c.args.outcome) c.self.view_is
    (λ yes. law.0 (c.are_same-in-None.ensures.0 yes), λ a. c.are_same-in-None.ensures.1 (law.1 a))

pub returns-in_default-outcome : goal.returns-in_default-outcome
returns-in_default-outcome c =
    let a = c.self.inside in
    let key = c.args.key.now in
    let value = c.args.value.now in
    let less = subst (λ (m : Machine). accepted_in m.state < m.options.wear) (sym c.self.view_is) c.requires.alive in
    let alive : ¬ (IsWorn a.options (store_of a)) = λ worn. let old : a.options.wear ≤ a.accepted = worn in omega arith in
    let needs : NeedsBlock a.options (store_of a) (write_of c.args.op key value) =
    elim c.in_default.branch [
      | in_default-via-in-Some-2+else-size-cell w ↦ record {
        stores = (c.requires.op, inl (replaces c.args.op c.requires.op (λ is. let e = rw is at w.eq.ensures in false≢true (sym w.if-eq.false ∙ e))));
        no_room = λ fits.
            let enough = subst (λ o. IsSomeAnd o (λ cell. item_size key value ≤ cell.room)) (sym w.in-Some.ensures) fits in
            let short = w.if-size-cell.false in
            let size = c.item_size-size.ensures in
            omega arith;
        has_spare = λ lacks. let no = w.in-Some.ensures ∙ lacks.is_new in cc;
      }
      | in_default-via-in-None+else-lacks_spare w ↦ record {
        stores = (c.requires.op, inr (sym w.in-None.ensures));
        no_room = λ fits. subst (λ o. IsSomeAnd o (λ cell. item_size key value ≤ cell.room)) (sym w.in-None.ensures) fits;
        has_spare = λ lacks.
            let here : LacksSpare (record { hashing = a.options.hashing; buckets = a.options.buckets; cells = a.table.cells }) key a.options.spares =
            record { some = lacks.some; full = lacks.full; none_left = lacks.none_left } in
            let there = subst (λ (t : Table). LacksSpare t key a.options.spares) (sym (λ i. record { hashing = c.self.invariant.hashing i; buckets = c.self.invariant.buckets i; cells = a.table.cells })) here in
            false≢true (sym w.if-lacks_spare.false ∙ w.lacks_spare.ensures.1 there);
      }
    ] in
    let none = of_others a.options (store_of a) key value alive c.args.op c.requires.op needs c.args.outcome c.in_default-outcome.not-Stored c.in_default-outcome.not-FullBlock in (
      λ no. absurd (false≢true no),
      λ allowed. absurd (none (subst (λ (m : Machine). Allows m.options m.state (write_of c.args.op key value) c.args.outcome) (sym c.self.view_is) allowed)),
    )
