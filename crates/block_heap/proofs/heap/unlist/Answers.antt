use Rattle.std.proofs.Common.{subst}
use Rattle.block_heap.specs.Lists.{list_of, IsWithout}
use Rattle.block_heap.proofs.Keeping.{neighbour_left}
use Rattle.block_heap.proofs.heap.unlist.Goals as goal

pub returns-clause-listed : goal.returns-clause-listed
returns-clause-listed c = λ before after listed.
    neighbour_left c.args.free.now c.remove.new.self c.args.blocks.now.1 c.args.neighbour c.in-Some.block c.in-Some.is c.requires c.rank_of.result c.rank_of.ensures.formula
    (subst (IsWithout (list_of c.args.free.now c.rank_of.result) (list_of c.remove.new.self c.rank_of.result)) c.slot_at-slot.ensures c.remove.ensures.removed)
    c.remove.ensures.others c.remove.ensures.stay c.remove.ensures.count before after listed
