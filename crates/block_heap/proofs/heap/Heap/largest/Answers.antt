use Rattle.std.proofs.Common.{List, subst}
use Rattle.block_heap.specs.declared.block.Block.{Block}
use Rattle.block_heap.specs.Blocks.{IsLargest}
use Rattle.block_heap.proofs.Finding.{is_largest, none_largest}
use Rattle.block_heap.proofs.heap.Heap.largest.Goals as goal

pub returns-in_default : goal.returns-in_default
returns-in_default c =
    subst (λ (bs : List Block). IsLargest bs 0) c.self.view_is (none_largest c.self.inside.blocks.0 c.self.inside.blocks.1 c.self.inside.free c.self.invariant c.in_default.ensures.none)

pub returns : goal.returns
returns c =
    let some = c.in-Some.ensures.some in
    subst (λ (bs : List Block). IsLargest bs c.most_words.result) c.self.view_is
    (is_largest c.self.inside.blocks.0 c.self.inside.blocks.1 c.self.inside.free c.in-Some.last c.most_words.result c.self.invariant some.0 c.most_words.ensures some.1 some.2)
