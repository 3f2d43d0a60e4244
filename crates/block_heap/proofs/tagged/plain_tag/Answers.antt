use Rattle.std.proofs.Common.{inl, inr, refl, ap}
use Rattle.block_heap.proofs.TagLaws.{tag_tells}
use Rattle.block_heap.proofs.tagged.plain_tag.Goals as goal

pub returns-then-block-clause-size : goal.returns-then-block-clause-size
returns-then-block-clause-size c = ap (λ t. t.0) (tag_tells c.args.block.size 1 c.args.block.used c.requires.some (inl (refl, c.if-block.true)))

pub returns-then-block-clause-used : goal.returns-then-block-clause-used
returns-then-block-clause-used c = ap (λ t. t.1) (tag_tells c.args.block.size 1 c.args.block.used c.requires.some (inl (refl, c.if-block.true)))

pub returns-else-block-clause-size : goal.returns-else-block-clause-size
returns-else-block-clause-size c = ap (λ t. t.0) (tag_tells c.args.block.size 2 c.args.block.used c.requires.some (inr (refl, c.if-block.false)))

pub returns-else-block-clause-used : goal.returns-else-block-clause-used
returns-else-block-clause-used c = ap (λ t. t.1) (tag_tells c.args.block.size 2 c.args.block.used c.requires.some (inr (refl, c.if-block.false)))
