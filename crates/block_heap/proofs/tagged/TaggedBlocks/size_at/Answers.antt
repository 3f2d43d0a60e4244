use Rattle.std.proofs.Common.{List, ◌≡◌, ap, ◌∙◌, subst, sym}
use Rattle.std.specs.List.{Contains}
use Rattle.block_heap.specs.declared.block.Block.{Block}
use Rattle.block_heap.specs.Tags.{tag_at}
use Rattle.block_heap.proofs.TagLaws.{lies_in, read_size}
use Rattle.block_heap.proofs.tagged.TaggedBlocks.size_at.Goals as goal

pub returns : goal.returns
returns c = λ block among here.
    let lies = lies_in c.self.inside.row.0 c.self.inside.row.1 _ block c.self.invariant (subst (λ (bs : List Block). Contains bs block) (sym (ap (λ v. v.0) c.self.view_is)) among) in
    c.size_in.ensures ∙ read_size c.self.inside.row.1 c.args.place c.tag.result block.size block.used
    (subst (λ p. tag_at c.self.inside.row.1 p ≡ (block.size, block.used)) here lies.tagged.first) c.tag.ensures
