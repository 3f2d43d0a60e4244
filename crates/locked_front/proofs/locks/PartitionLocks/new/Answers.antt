use Rattle.std.proofs.Common.{sym, subst}
use Rattle.locked_front.specs.Locks.{AreInOrder}
use Rattle.locked_front.proofs.Locking.{none_in_order}
use Rattle.locked_front.proofs.locks.PartitionLocks.new.Goals as goal

pub invariant_of-result : goal.invariant_of-result
invariant_of-result g c = subst AreInOrder (sym c.in_ok-with_capacity.ensures.items) none_in_order
