use Rattle.std.proofs.Common.{arith}
use Rattle.named_files.proofs.Left.{past_left}
use Rattle.named_files.proofs.memory.MemPlace.left_version.Goals as goal

pub returns-in-Some : goal.returns-in-Some
returns-in-Some c left leaves =
    let lookup = c.in-Some.ensures.lookup in
    past_left c.args.self.now c.args.number c.in-Some.version.now c.deref.result.now c.deref.ensures.value (omega (arith, c.if-self-number.true)) lookup.0 lookup.1 left leaves
