use Rattle.core_tests.proofs.Held.{held_taken, held_on}
use Rattle.core_tests.proofs.heap.take_block.Goals as goal

pub returns-in-Ok : goal.returns-in-Ok
returns-in-Ok c = held_taken c.args.heap.now c.take.new.self c.args.sizes.now c.insert.new.self c.in-Some.place c.args.need c.requires c.in-Some.ensures.taken c.in-Ok.ensures.updates

pub returns-in-Err : goal.returns-in-Err
returns-in-Err c = held_on c.args.heap.now c.take.new.self c.args.sizes.now c.insert.new.self c.in-Some.place c.args.need c.requires c.in-Some.ensures.taken c.in-Err.ensures.err
