use Rattle.std.proofs.Common.{ap, sym, ◌∙◌}
use Rattle.block_heap.specs.Blocks.{words_of}
use Rattle.block_heap.proofs.TagLaws.{words_told}
use Rattle.block_heap.proofs.tagged.TaggedBlocks.words.Goals as goal

pub returns-clause-words : goal.returns-clause-words
returns-clause-words c = c.words.ensures.words ∙ sym (words_told c.self.inside.row.0 c.self.inside.row.1 _ c.self.invariant) ∙ ap (λ v. words_of v.0) c.self.view_is
