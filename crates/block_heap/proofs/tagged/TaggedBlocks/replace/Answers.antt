use Rattle.std.proofs.Common.{List, ℕ, ◌≡◌, ◌+◌, ◌∷◌, ◌++◌, ◌∙◌, sym, ap, subst}
use Rattle.block_heap.specs.declared.block.Block.{Block}
use Rattle.block_heap.specs.Blocks.{Fills}
use Rattle.block_heap.specs.Tags.{TellBlocks, IsTagged, Rewrites}
use Rattle.block_heap.proofs.TagLaws.{NowTell, one_written, replaced, covered_within}
use Rattle.block_heap.proofs.tagged.TaggedBlocks.replace.Goals as goal

pub tag-requires-clause-within : goal.tag-requires-clause-within
tag-requires-clause-within c =
    let covers = c.requires.covers in
    covered_within c.self.inside.row.0 c.self.inside.row.1 c.args.block covers.before covers.middle covers.after c.requires.some (subst (TellBlocks c.self.inside.row.0 c.self.inside.row.1) (ap (λ v. v.0) c.self.view_is ∙ covers.whole) c.self.invariant) covers.fills

abbrev told : (c : goal.After-tag) (before middle after : List Block) → c.args.self.now.0 ≡ before ++ (middle ++ after) → Fills c.args.block.place middle (c.args.block.place + c.args.block.size)
    → NowTell c.tag.new.row.0 c.tag.new.row.1 (before ++ c.args.block ∷ after)
told c before middle after whole fills =
    let words : c.self.inside.row.0 ≡ c.tag.new.row.0 = sym c.tag.ensures.words in
    subst (λ (n : ℕ). NowTell n c.tag.new.row.1 (before ++ c.args.block ∷ after)) words
    (replaced c.self.inside.row.0 c.self.inside.row.1 c.tag.new.row.1 c.args.block before middle after c.requires.some
    (one_written c.self.inside.row.1 c.tag.new.row.1 c.args.block c.requires.some c.tag.ensures.others)
    (subst (TellBlocks c.self.inside.row.0 c.self.inside.row.1) (ap (λ v. v.0) c.self.view_is ∙ whole) c.self.invariant) fills
    (subst (λ (n : ℕ). IsTagged n c.tag.new.row.1 c.args.block) (sym words) c.tag.ensures.here))

pub invariant_of-self : goal.invariant_of-self
invariant_of-self c = (let covers = c.requires.covers in (told c covers.before covers.middle covers.after covers.whole covers.fills).tell)

pub returns-clause-blocks : goal.returns-clause-blocks
returns-clause-blocks c = λ before middle after whole fills. (told c before middle after whole fills).view

pub returns-clause-tags : goal.returns-clause-tags
returns-clause-tags c = subst (λ (ts : List ℕ). Rewrites ts c.tag.new.row.1 c.args.block.place (c.args.block.place + c.args.block.size)) (ap (λ v. v.1) c.self.view_is)
    (one_written c.self.inside.row.1 c.tag.new.row.1 c.args.block c.requires.some c.tag.ensures.others)
