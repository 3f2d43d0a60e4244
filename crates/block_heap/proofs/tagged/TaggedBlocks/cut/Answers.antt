use Rattle.std.proofs.Common.{List, ℕ, ◌≡◌, ◌+◌, ◌-◌, ◌∷◌, ◌++◌, ◌∙◌, ap, arith, subst, sym}
use Rattle.std.specs.List.{Contains}
use Rattle.block_heap.specs.declared.block.Block.{Block}
use Rattle.block_heap.specs.Blocks.{free_block, used_block}
use Rattle.block_heap.specs.Changes.{rest_of}
use Rattle.block_heap.specs.Tags.{IsTagged, OthersStay, Rewrites}
use Rattle.block_heap.proofs.Places.{parted}
use Rattle.block_heap.proofs.TagLaws.{LiesIn, Cut, NowTell, cut_told, cut_whole, cut_part, lies_in}
use Rattle.block_heap.proofs.tagged.TaggedBlocks.cut.Goals as goal
use Rattle.block_heap.proofs.tagged.TaggedBlocks.cut.Goals.{After-self}

abbrev lies : (c : After-self) → LiesIn c.self.inside.row.0 c.self.inside.row.1 c.args.block
lies c = lies_in c.self.inside.row.0 c.self.inside.row.1 _ c.args.block c.self.invariant (subst (λ (bs : List Block). Contains bs c.args.block) (sym (ap (λ v. v.0) c.self.view_is)) c.requires.among)

pub tag-requires-clause-within : goal.tag-requires-clause-within
tag-requires-clause-within c =
    let lies = lies (goal.at.tag-requires-clause-within c).After-self in
    let within = lies.within in
    rw c.used-used.ensures (omega (arith, c.if-need-block.true))

abbrev whole : (c : goal.After-tag) → Cut c.self.inside.row.0 c.self.inside.row.1 c.tag.new.row.1 c.args.block c.args.need
whole c =
    cut_whole c.self.inside.row.0 c.self.inside.row.1 c.tag.new.row.1 c.args.block c.args.need c.requires.some c.requires.enough (omega (arith, c.if-need-block.true))
    (subst (OthersStay c.self.inside.row.1 c.tag.new.row.1) c.used-used.ensures c.tag.ensures.others)
    (subst (λ (n : ℕ). IsTagged n c.tag.new.row.1 (used_block c.args.block.place c.args.need)) c.tag.ensures.words (subst (IsTagged c.tag.new.row.0 c.tag.new.row.1) c.used-used.ensures c.tag.ensures.here))

abbrev whole_told : (c : goal.After-tag) (before after : List Block) → c.args.self.now.0 ≡ before ++ c.args.block ∷ after
    → NowTell c.tag.new.row.0 c.tag.new.row.1 (before ++ used_block c.args.block.place c.args.need ∷ (rest_of (c.args.block.place + c.args.need) (c.args.block.size - c.args.need) ++ after))
whole_told c before after is =
    subst (λ (n : ℕ). NowTell n c.tag.new.row.1 (before ++ used_block c.args.block.place c.args.need ∷ (rest_of (c.args.block.place + c.args.need) (c.args.block.size - c.args.need) ++ after))) (sym c.tag.ensures.words)
    (cut_told c.self.inside.row.0 c.self.inside.row.1 c.tag.new.row.1 c.args.block c.args.need _ before after (whole c) c.self.invariant (ap (λ v. v.0) c.self.view_is ∙ is))

pub invariant_of-self : goal.invariant_of-self
invariant_of-self c = (let parts = parted c.args.self.now.0 c.args.block c.requires.among in (whole_told c parts.0 parts.1 parts.2).tell)

pub returns-then-need-block-clause-blocks : goal.returns-then-need-block-clause-blocks
returns-then-need-block-clause-blocks c = λ before after is. (whole_told c before after is).view

pub returns-then-need-block-clause-tags : goal.returns-then-need-block-clause-tags
returns-then-need-block-clause-tags c = subst (λ (ts : List ℕ). Rewrites ts c.tag.new.row.1 c.args.block.place (c.args.block.place + c.args.block.size)) (ap (λ v. v.1) c.self.view_is) (whole c).writes

pub overflow_add-block : goal.overflow_add-block
overflow_add-block c =
    let lies = lies (goal.at.overflow_add-block c).After-self in
    let within = lies.within in
    omega (arith, c.self.invariant.limit, c.requires.enough)

pub tag-requires-2-clause-within : goal.tag-requires-2-clause-within
tag-requires-2-clause-within c =
    let lies = lies (goal.at.tag-requires-2-clause-within c).After-self in
    let within = lies.within in
    rw c.free.ensures (omega (arith, c.requires.enough))

pub tag-requires-3-clause-within : goal.tag-requires-3-clause-within
tag-requires-3-clause-within c =
    let lies = lies (goal.at.tag-requires-3-clause-within c).After-self in
    let within = lies.within in
    rw c.used-used.ensures (omega (arith, c.tag-2.ensures.words, c.requires.enough))

abbrev part : (c : goal.After-tag-3) → Cut c.self.inside.row.0 c.self.inside.row.1 c.tag-3.new.row.1 c.args.block c.args.need
part c =
    let words : c.self.inside.row.0 ≡ c.tag-3.new.row.0 = sym (c.tag-3.ensures.words ∙ c.tag-2.ensures.words) in
    let first = used_block c.args.block.place c.args.need in
    let rest = free_block (c.args.block.place + c.args.need) (c.args.block.size - c.args.need) in
    cut_part c.self.inside.row.0 c.self.inside.row.1 c.tag-2.new.row.1 c.tag-3.new.row.1 c.args.block c.args.need c.requires.some (omega (arith, c.requires.enough, c.if-need-block.false))
    (subst (OthersStay c.self.inside.row.1 c.tag-2.new.row.1) c.free.ensures c.tag-2.ensures.others)
    (subst (λ (n : ℕ). IsTagged n c.tag-2.new.row.1 rest) c.tag-2.ensures.words (subst (IsTagged c.tag-2.new.row.0 c.tag-2.new.row.1) c.free.ensures c.tag-2.ensures.here))
    (subst (OthersStay c.tag-2.new.row.1 c.tag-3.new.row.1) c.used-used.ensures c.tag-3.ensures.others)
    (subst (λ (n : ℕ). IsTagged n c.tag-3.new.row.1 first) (sym words) (subst (IsTagged c.tag-3.new.row.0 c.tag-3.new.row.1) c.used-used.ensures c.tag-3.ensures.here))

abbrev part_told : (c : goal.After-tag-3) (before after : List Block) → c.args.self.now.0 ≡ before ++ c.args.block ∷ after
    → NowTell c.tag-3.new.row.0 c.tag-3.new.row.1 (before ++ used_block c.args.block.place c.args.need ∷ (rest_of (c.args.block.place + c.args.need) (c.args.block.size - c.args.need) ++ after))
part_told c before after is =
    subst (λ (n : ℕ). NowTell n c.tag-3.new.row.1 (before ++ used_block c.args.block.place c.args.need ∷ (rest_of (c.args.block.place + c.args.need) (c.args.block.size - c.args.need) ++ after)))
    (sym (c.tag-3.ensures.words ∙ c.tag-2.ensures.words))
    (cut_told c.self.inside.row.0 c.self.inside.row.1 c.tag-3.new.row.1 c.args.block c.args.need _ before after (part c) c.self.invariant (ap (λ v. v.0) c.self.view_is ∙ is))

pub invariant_of-self-2 : goal.invariant_of-self-2
invariant_of-self-2 c = (let parts = parted c.args.self.now.0 c.args.block c.requires.among in (part_told c parts.0 parts.1 parts.2).tell)

pub returns-clause-blocks : goal.returns-clause-blocks
returns-clause-blocks c = λ before after is. (part_told c before after is).view

pub returns-clause-tags : goal.returns-clause-tags
returns-clause-tags c = subst (λ (ts : List ℕ). Rewrites ts c.tag-3.new.row.1 c.args.block.place (c.args.block.place + c.args.block.size)) (ap (λ v. v.1) c.self.view_is) (part c).writes
