use Rattle.std.proofs.Common.{arith}
use Rattle.block_heap.proofs.SlotLaws.{reused, last_among}
use Rattle.block_heap.proofs.links.slot_for.Goals as goal

pub returns-in-Some-clause-slot : goal.returns-in-Some-clause-slot
returns-in-Some-clause-slot c = reused _ _ _ _ c.in-Some.slot c.args.place c.put_place.ensures.placed c.in-Some.ensures.items (c.requires.within c.in-Some.slot (last_among _ _ c.in-Some.slot c.in-Some.ensures.items))

pub put_place-requires : goal.put_place-requires
put_place-requires c = c.requires.within c.in-Some.slot (last_among _ _ c.in-Some.slot c.in-Some.ensures.items)

pub overflow_add-slot : goal.overflow_add-slot
overflow_add-slot c = (let within = c.requires.within c.in-Some.slot (last_among _ _ c.in-Some.slot c.in-Some.ensures.items) in let limit = c.requires.limit in omega arith)
