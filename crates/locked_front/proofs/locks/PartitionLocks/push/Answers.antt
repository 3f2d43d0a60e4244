use Rattle.std.proofs.Common.{sym, subst, arith}
use Rattle.locked_front.specs.Locks.{AreInOrder}
use Rattle.locked_front.proofs.Locking.{one_more}
use Rattle.locked_front.proofs.locks.PartitionLocks.push.Goals as goal

pub invariant_of-self-2 : goal.invariant_of-self-2
invariant_of-self-2 g c =
    subst AreInOrder (sym c.in_ok-push.ensures.items) (one_more c.self.inside.locks.items c.in_ok-lock.lock c.self.invariant (omega (arith, c.in_ok-lock.ensures, c.number-number.ensures, c.requires, c.self.view_is)))
