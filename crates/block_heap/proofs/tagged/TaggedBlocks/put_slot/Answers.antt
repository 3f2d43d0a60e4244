use Rattle.std.proofs.Common.{List, ℕ, ◌+◌, ap, ◌∙◌, subst, sym}
use Rattle.std.specs.List.{Contains}
use Rattle.block_heap.specs.declared.block.Block.{Block}
use Rattle.block_heap.specs.Tags.{Rewrites, blocks_of}
use Rattle.block_heap.proofs.TagLaws.{LiesIn, NowTell, lies_in, told_again}
use Rattle.block_heap.proofs.tagged.TaggedBlocks.put_slot.Goals as goal
use Rattle.block_heap.proofs.tagged.TaggedBlocks.put_slot.Goals.{After-self, After-write_slot}

abbrev lies : (c : After-self) → LiesIn c.self.inside.row.0 c.self.inside.row.1 c.args.block
lies c = lies_in c.self.inside.row.0 c.self.inside.row.1 _ c.args.block c.self.invariant (subst (λ (bs : List Block). Contains bs c.args.block) (sym (ap (λ v. v.0) c.self.view_is)) c.requires.among)

pub write_slot-requires-clause-some : goal.write_slot-requires-clause-some
write_slot-requires-clause-some c = (lies (goal.at.write_slot-requires-clause-some c).After-self).some

pub write_slot-requires-clause-within : goal.write_slot-requires-clause-within
write_slot-requires-clause-within c = (lies (goal.at.write_slot-requires-clause-within c).After-self).within

pub write_slot-requires-clause-tagged : goal.write_slot-requires-clause-tagged
write_slot-requires-clause-tagged c = (lies (goal.at.write_slot-requires-clause-tagged c).After-self).tagged

abbrev told : (c : After-write_slot) → NowTell c.write_slot.new.row.0 c.write_slot.new.row.1 (blocks_of c.self.inside.row.0 c.self.inside.row.1)
told c = told_again c.self.inside.row.0 c.write_slot.new.row.0 c.self.inside.row.1 c.write_slot.new.row.1 (blocks_of c.self.inside.row.0 c.self.inside.row.1) c.args.block c.self.invariant (subst (λ (bs : List Block). Contains bs c.args.block) (sym (ap (λ v. v.0) c.self.view_is)) c.requires.among)
    c.write_slot.ensures.tags c.write_slot.ensures.here c.write_slot.ensures.words

pub invariant_of-self : goal.invariant_of-self
invariant_of-self c = (told (goal.at.invariant_of-self c).After-write_slot).tell

pub returns-clause-blocks : goal.returns-clause-blocks
returns-clause-blocks c = (told (goal.at.returns-clause-blocks c).After-write_slot).view ∙ ap (λ v. v.0) c.self.view_is

pub returns-clause-tags : goal.returns-clause-tags
returns-clause-tags c = subst (λ (ts : List ℕ). Rewrites ts c.write_slot.new.row.1 c.args.block.place (c.args.block.place + c.args.block.size)) (ap (λ v. v.1) c.self.view_is) c.write_slot.ensures.tags
