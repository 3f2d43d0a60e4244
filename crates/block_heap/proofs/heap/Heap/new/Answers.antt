use Rattle.std.proofs.Common.{◌≡◌, ◌∙◌, subst}
use Rattle.block_heap.specs.Tags.{slot_of}
use Rattle.block_heap.proofs.Keeping.{heap_new}
use Rattle.block_heap.proofs.heap.Heap.new.Goals as goal

pub invariant_of-result : goal.invariant_of-result
invariant_of-result c =
    let is = c.put_slot.ensures.blocks ∙ c.in_ok-blocks.ensures in
    heap_new c.args.words c.put_slot.new.self.0 c.put_slot.new.self.1 c.in_ok-free.free c.add-slot.new.self is c.requires.some c.requires.limit
    (c.add-slot.ensures.words ∙ c.in_ok-free.ensures.words) c.in_ok-free.ensures.empty c.in_ok-free.ensures.count c.rank_of-rank.result c.add-slot.result c.rank_of-rank.ensures.formula c.add-slot.ensures.added
    c.add-slot.ensures.others c.add-slot.ensures.here c.add-slot.ensures.stay c.add-slot.ensures.count
    (subst (λ b. slot_of c.put_slot.new.self.1 b ≡ c.add-slot.result) c.free-block.ensures c.put_slot.ensures.slot)
