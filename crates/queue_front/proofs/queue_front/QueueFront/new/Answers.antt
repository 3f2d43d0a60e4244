use Rattle.std.proofs.Common.{arith}
use Rattle.queue_front.proofs.QueueSteps.{new_front}
use Rattle.queue_front.proofs.queue_front.QueueFront.new.Goals as goal

pub invariant_of-result : goal.invariant_of-result
invariant_of-result c =
    let new = new_front c.args.options.now c.args.number c.args.most c.args.parts.items c.requires.each in
    record { valid = c.requires.valid; many = omega (arith, c.requires.many, c.args.parts.ok); each = new.0; sent = new.1; few = omega (arith, c.ranges.most.fits) }
