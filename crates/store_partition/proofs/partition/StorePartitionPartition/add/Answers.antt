use Rattle.store_partition.proofs.Words.{Add, Exists, IsOwnerStep, Kept, arith, subst, sym, write_of}
use Rattle.store_partition.specs.Sought.{IsSought}
use Rattle.store_partition.proofs.Held.{already, not_reached}
use Rattle.store_partition.proofs.Parts.{held, known_at, whole, worn}
use Rattle.store_partition.proofs.Searched.{from_before}
use Rattle.store_partition.proofs.partition.StorePartitionPartition.add.Goals as goal

pub returns-then-is_worn-clause-step : goal.returns-then-is_worn-clause-step
returns-then-is_worn-clause-step g c = worn c.args.self.now.parts (c.is_worn.ensures.0 c.if-is_worn.true) _

pub seek-place-requires-clause-index : goal.seek-place-requires-clause-index
seek-place-requires-clause-index g c = (whole c.args.self.now.parts).known

pub returns-in-Some-clause-step : goal.returns-in-Some-clause-step
returns-in-Some-clause-step g c =
    let o = g.W.OwnerWords.owner c.args.self.now.words in
    let key = c.args.key.now in
    let place = c.seek-place.result in
    let kept = subst Kept c.seek-place.ensures.same.0 c.seek-place.ensures.kept in
    let k = known_at kept c.args.self.now.parts (subst (IsSought o key place.bucket) c.in-Some.is c.seek-place.ensures.sought) (λ i. omega (arith, c.type_inv.key i)) in
    subst (λ z. IsOwnerStep o z (write_of Add key c.args.value.now) Exists) (sym c.seek-place.ensures.same.0)
    (already (held kept c.args.self.now.parts) key c.args.value.now place.bucket c.in-Some.field-0 k (not_reached o.shape.wear _ c.is_worn.result c.is_worn.ensures.1 c.if-is_worn.false))

pub returns-in-None-clause-step : goal.returns-in-None-clause-step
returns-in-None-clause-step g c = from_before c.seek-place.ensures.same.0 c.put_new.ensures.step
