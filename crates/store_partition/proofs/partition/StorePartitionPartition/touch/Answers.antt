use Rattle.store_partition.proofs.Parts.{whole, worn}
use Rattle.store_partition.proofs.Searched.{from_before}
use Rattle.store_partition.proofs.partition.StorePartitionPartition.touch.Goals as goal

pub returns-then-is_worn-clause-step : goal.returns-then-is_worn-clause-step
returns-then-is_worn-clause-step g c = worn c.args.self.now.parts (c.is_worn.ensures.0 c.if-is_worn.true) _

pub seek-place-requires-clause-index : goal.seek-place-requires-clause-index
seek-place-requires-clause-index g c = (whole c.args.self.now.parts).known

pub returns-clause-step : goal.returns-clause-step
returns-clause-step g c = from_before c.seek-place.ensures.same.0 c.mark_only.ensures.step
