use Rattle.std.proofs.Common.{length, refl, arith}
use Rattle.std.proofs.lemmas.Option.{slice_get_read}
use Rattle.locked_front.proofs.locks.PartitionLocks.of.Goals as goal

pub returns : goal.returns
returns g c =
    let locks = c.self.inside.locks.items in
    c.self.invariant c.args.number c.index.result.now (slice_get_read locks (length locks) c.args.number c.index.result.now refl (omega (arith, c.requires, c.self.view_is)) c.index.ensures)
