use Rattle.std.proofs.Common.{◌≡◌, ℕ, ◌+◌, ◌-◌, ◌<◌, ◌∷◌, ◌++◌, List, sym, subst, arith}
use Rattle.std.specs.List.{Contains}
use Rattle.block_heap.specs.declared.block.Block.{Block}
use Rattle.block_heap.specs.Blocks.{used_block, IsBlockList, Fills, words_of}
use Rattle.block_heap.specs.Changes.{rest_of, IsParted}
use Rattle.block_heap.specs.Tags.{Covers, Rewrites}
use Rattle.block_heap.proofs.Giving.{UsedAt, has_block, read_at}
use Rattle.block_heap.proofs.Parting.{longer, covers, parted, list, heap_parted}
use Rattle.block_heap.proofs.heap.Heap.part.Goals as goal
use Rattle.block_heap.proofs.heap.Heap.part.Goals.{After-size_at-size, After-cut, After-replace}

pub size_at-size-requires : goal.size_at-size-requires
size_at-size-requires c = has_block c.self.inside.blocks.0 _ c.args.place c.self.invariant.list c.self.view_is c.requires.has

abbrev used : (c : After-size_at-size) → UsedAt (words_of c.self.inside.blocks.0) c.self.inside.blocks.0 c.args.place c.size_at-size.result
used c = read_at c.self.inside.blocks.0 _ c.args.place c.size_at-size.result c.self.invariant.list c.self.view_is c.requires.has c.size_at-size.ensures

abbrev more : (c : After-size_at-size) → c.args.need < c.size_at-size.result
more c = longer c.self.inside.blocks.0 _ c.args.place c.size_at-size.result c.args.need c.self.invariant.list c.self.view_is c.requires c.size_at-size.ensures

pub cut-requires-clause-enough : goal.cut-requires-clause-enough
cut-requires-clause-enough c = (let more = more (goal.at.cut-requires-clause-enough c).After-size_at-size in rw c.used.ensures (omega arith))

pub cut-requires-clause-among : goal.cut-requires-clause-among
cut-requires-clause-among c = subst (Contains c.self.inside.blocks.0) (sym c.used.ensures) (used (goal.at.cut-requires-clause-among c).After-size_at-size).among

pub overflow_add-place : goal.overflow_add-place
overflow_add-place c =
    let at = (goal.at.overflow_add-place c).After-size_at-size in
    let more = more at in
    let within = (used at).within in
    omega (arith, c.self.invariant.limit)

pub overflow_sub-size : goal.overflow_sub-size
overflow_sub-size c = (let more = more (goal.at.overflow_sub-size c).After-size_at-size in omega arith)

-- the first words were cut off
module _ (c : After-cut) (more : c.args.need < c.size_at-size.result) where
  abbrev cut_is : (before after : List Block) → c.self.inside.blocks.0 ≡ before ++ used_block c.args.place c.size_at-size.result ∷ after
      → c.cut.new.self.0 ≡ before ++ used_block c.args.place c.args.need ∷ (rest_of (c.args.place + c.args.need) (c.size_at-size.result - c.args.need) ++ after)
  cut_is = subst (λ (b : Block). (before after : List Block) → c.self.inside.blocks.0 ≡ before ++ b ∷ after
      → c.cut.new.self.0 ≡ before ++ used_block b.place c.args.need ∷ (rest_of (b.place + c.args.need) (b.size - c.args.need) ++ after)) c.used.ensures c.cut.ensures.blocks

  abbrev cut_tags : Rewrites c.self.inside.blocks.1 c.cut.new.self.1 c.args.place (c.args.place + c.size_at-size.result)
  cut_tags = subst (λ (b : Block). Rewrites c.self.inside.blocks.1 c.cut.new.self.1 b.place (b.place + b.size)) c.used.ensures c.cut.ensures.tags

pub replace-requires-clause-some : goal.replace-requires-clause-some
replace-requires-clause-some c = (let more = more (goal.at.replace-requires-clause-some c).After-size_at-size in rw c.used-2.ensures (omega arith))

pub replace-requires-clause-covers : goal.replace-requires-clause-covers
replace-requires-clause-covers c =
    let at = goal.at.replace-requires-clause-covers c in
    let more = more at.After-size_at-size in
    subst (Covers c.cut.new.self.0) (sym c.used-2.ensures)
    (covers c.self.inside.blocks.0 c.cut.new.self.0 c.self.inside.blocks.1 c.cut.new.self.1 c.self.inside.free c.args.place c.size_at-size.result c.args.need c.self.invariant (used at.After-size_at-size) c.requires.some more
    (cut_is at.After-cut more) (cut_tags at.After-cut more))

-- and the rest is used again
module _ (c : After-replace) (used : UsedAt (words_of c.self.inside.blocks.0) c.self.inside.blocks.0 c.args.place c.size_at-size.result) (more : c.args.need < c.size_at-size.result)
    (cut_is : (before after : List Block) → c.self.inside.blocks.0 ≡ before ++ used_block c.args.place c.size_at-size.result ∷ after
    → c.cut.new.self.0 ≡ before ++ used_block c.args.place c.args.need ∷ (rest_of (c.args.place + c.args.need) (c.size_at-size.result - c.args.need) ++ after))
    (cut_tags : Rewrites c.self.inside.blocks.1 c.cut.new.self.1 c.args.place (c.args.place + c.size_at-size.result)) where
  abbrev rest : ℕ
  rest = c.args.place + c.args.need

  abbrev now_is : (before middle after : List Block) → c.cut.new.self.0 ≡ before ++ (middle ++ after) → Fills rest middle (rest + (c.size_at-size.result - c.args.need))
      → c.replace.new.self.0 ≡ before ++ used_block rest (c.size_at-size.result - c.args.need) ∷ after
  now_is = subst (λ (b : Block). (before middle after : List Block) → c.cut.new.self.0 ≡ before ++ (middle ++ after) → Fills b.place middle (b.place + b.size)
      → c.replace.new.self.0 ≡ before ++ b ∷ after) c.used-2.ensures c.replace.ensures.blocks

  abbrev now_tags : Rewrites c.cut.new.self.1 c.replace.new.self.1 rest (rest + (c.size_at-size.result - c.args.need))
  now_tags = subst (λ (b : Block). Rewrites c.cut.new.self.1 c.replace.new.self.1 b.place (b.place + b.size)) c.used-2.ensures c.replace.ensures.tags

pub invariant_of-self : goal.invariant_of-self
invariant_of-self c =
    let at = goal.at.invariant_of-self c in
    let used = used at.After-size_at-size in
    let more = more at.After-size_at-size in
    let first = cut_is at.After-cut more in
    let tags = cut_tags at.After-cut more in
    heap_parted c.self.inside.blocks.0 c.cut.new.self.0 c.self.inside.blocks.1 c.cut.new.self.1 c.self.inside.free c.args.place c.size_at-size.result c.args.need c.self.invariant used c.requires.some more first tags c.replace.new.self.0 c.replace.new.self.1 (now_is at.After-replace used more first tags) (now_tags at.After-replace used more first tags)

pub returns-clause-parted : goal.returns-clause-parted
returns-clause-parted c =
    let at = goal.at.returns-clause-parted c in
    let used = used at.After-size_at-size in
    let more = more at.After-size_at-size in
    let first = cut_is at.After-cut more in
    let tags = cut_tags at.After-cut more in
    subst (λ (bs : List Block). IsParted bs c.replace.new.self.0 c.args.place c.args.need) c.self.view_is (parted c.self.inside.blocks.0 c.cut.new.self.0 c.self.inside.blocks.1 c.cut.new.self.1 c.self.inside.free c.args.place c.size_at-size.result c.args.need c.self.invariant used c.requires.some more first tags c.replace.new.self.0 c.replace.new.self.1 (now_is at.After-replace used more first tags) (now_tags at.After-replace used more first tags))

pub returns-clause-blocks : goal.returns-clause-blocks
returns-clause-blocks c =
    let at = goal.at.returns-clause-blocks c in
    let used = used at.After-size_at-size in
    let more = more at.After-size_at-size in
    let first = cut_is at.After-cut more in
    let tags = cut_tags at.After-cut more in
    subst (λ (bs : List Block). IsBlockList (words_of bs) c.replace.new.self.0) c.self.view_is (list c.self.inside.blocks.0 c.cut.new.self.0 c.self.inside.blocks.1 c.cut.new.self.1 c.self.inside.free c.args.place c.size_at-size.result c.args.need c.self.invariant used c.requires.some more first tags c.replace.new.self.0 c.replace.new.self.1 (now_is at.After-replace used more first tags) (now_tags at.After-replace used more first tags))
