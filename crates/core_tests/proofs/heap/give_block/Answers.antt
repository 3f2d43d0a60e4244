use Rattle.core_tests.proofs.Held.{held_given}
use Rattle.core_tests.proofs.heap.give_block.Goals as goal

pub returns : goal.returns
returns c = held_given c.args.heap.now c.give.new.self c.args.sizes.now c.remove.new.self c.in-Some.place.now c.requires c.give.ensures.given c.remove.ensures.updates
