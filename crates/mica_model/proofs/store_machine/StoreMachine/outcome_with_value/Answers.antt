use Rattle.std.proofs.Common.{◌<◌, ◌≤◌, refl, sym, subst, arith}
use Rattle.partition_model.specs.declared.write.Outcome.TheVariants.{FullSpare}
use Rattle.partition_model.specs.Write.{write_of}
use Rattle.mica_model.specs.CellTable.{LacksSpare, Table}
use Rattle.partition_model.specs.StoreStep.{NeedsSpare}
use Rattle.mica_model.specs.Machine.{Machine}
use Rattle.partition_model.specs.History.{Allows, accepted_in}
use Rattle.mica_model.proofs.store_machine.StoreMachine.outcome_with_value.Goals as goal

pub returns-in-None-clause-allowed : goal.returns-in-None-clause-allowed
returns-in-None-clause-allowed c =
    let a = c.self.inside in
    let key = c.args.key.now in
    let alive = subst (λ (m : Machine). accepted_in m.state < m.options.wear) (sym c.self.view_is) c.requires.alive in
    let none = c.in-None.ensures in
    let lacks = c.if-lacks_spare.ensures.0 refl in
    let needs : NeedsSpare a.options (record { cells = a.table.cells; stamp = a.stamp; accepted = a.accepted }) key =
    let here = subst (λ (t : Table). LacksSpare t key a.options.spares) (λ i. record { hashing = c.self.invariant.hashing i; buckets = c.self.invariant.buckets i; cells = a.table.cells }) lacks in
    record { is_new = sym none; some = here.some; full = here.full; none_left = here.none_left } in
    subst (λ (m : Machine). Allows m.options m.state (write_of c.args.op key c.args.value.now) FullSpare) c.self.view_is
    ((λ worn. let old : a.options.wear ≤ a.accepted = worn in omega arith), (c.requires.op, needs))
