use Rattle.std.proofs.Common.{ℕ, ap, ◌∙◌, sym, subst}
use Rattle.block_heap.specs.Tags.{IsTagged}
use Rattle.block_heap.proofs.TagLaws.{one_written, slot_tells, second_written, small_slot, large_slot}
use Rattle.block_heap.proofs.tagged.write_slot.Goals as goal

pub tag_ends-requires-clause-size : goal.tag_ends-requires-clause-size
tag_ends-requires-clause-size c = ap (λ t. t.0) (slot_tells c.args.block.size c.args.slot c.requires.some c.if-block-lt3.true)

pub tag_ends-requires-clause-used : goal.tag_ends-requires-clause-used
tag_ends-requires-clause-used c = ap (λ t. t.1) (slot_tells c.args.block.size c.args.slot c.requires.some c.if-block-lt3.true) ∙ sym c.requires.free

pub returns-then-block-lt3-clause-slot : goal.returns-then-block-lt3-clause-slot
returns-then-block-lt3-clause-slot c = small_slot c.tag_ends.new.row.1 c.args.block c.args.slot c.requires.some c.if-block-lt3.true c.tag_ends.ensures.first

pub returns-then-block-lt3-clause-tags : goal.returns-then-block-lt3-clause-tags
returns-then-block-lt3-clause-tags c = one_written c.args.row.now.1 c.tag_ends.new.row.1 c.args.block c.requires.some c.tag_ends.ensures.others

pub returns-else-block-lt3-clause-here : goal.returns-else-block-lt3-clause-here
returns-else-block-lt3-clause-here c =
    subst (λ (n : ℕ). IsTagged n c.set.new.self.1 c.args.block) (sym c.set.ensures.words) (second_written c.args.row.now.0 c.args.row.now.1 c.set.new.self.1 c.args.block c.if-block-lt3.false c.requires.tagged c.set.ensures.others).0

pub returns-else-block-lt3-clause-slot : goal.returns-else-block-lt3-clause-slot
returns-else-block-lt3-clause-slot c = large_slot c.set.new.self.1 c.args.block c.args.slot c.if-block-lt3.false c.set.ensures.here

pub returns-else-block-lt3-clause-tags : goal.returns-else-block-lt3-clause-tags
returns-else-block-lt3-clause-tags c = (second_written c.args.row.now.0 c.args.row.now.1 c.set.new.self.1 c.args.block c.if-block-lt3.false c.requires.tagged c.set.ensures.others).1
