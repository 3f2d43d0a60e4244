use Rattle.std.proofs.Common.{◌∷◌, [], ◌∙◌, arith, subst, refl}
use Rattle.block_heap.specs.Blocks.{free_block}
use Rattle.block_heap.specs.Tags.{AreTagged}
use Rattle.block_heap.proofs.TagLaws.{NowTell, now_tell}
use Rattle.block_heap.proofs.tagged.TaggedBlocks.new.Goals as goal

abbrev told : (c : goal.After-tag) → NowTell c.tag.new.row.0 c.tag.new.row.1 (free_block 0 c.args.words ∷ [])
told c =
    let words = c.tag.ensures.words ∙ c.in_ok-row.ensures in
    now_tell c.tag.new.row.0 c.tag.new.row.1 (free_block 0 c.args.words ∷ []) (record {
      fills = (refl, c.requires.some, omega (arith, words));
      tagged = (subst (λ b. AreTagged c.tag.new.row.0 c.tag.new.row.1 (b ∷ [])) c.free.ensures (c.tag.ensures.here, tt));
      limit = omega (arith, words, c.requires.limit);
    })

pub invariant_of-result : goal.invariant_of-result
invariant_of-result c = (told c).tell

pub returns : goal.returns
returns c = (told c).view
