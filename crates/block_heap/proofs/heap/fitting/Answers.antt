use Rattle.std.proofs.Common.{◌≡◌, ◌<◌, ℕ, Option, Some, None, length, sym, ◌∙◌, subst, arith}
use Rattle.std.specs.Option.{IfNone}
use Rattle.block_heap.specs.declared.block.Block.{Block}
use Rattle.block_heap.specs.Blocks.{NoneFits}
use Rattle.block_heap.specs.Ranks.{rank_of}
use Rattle.block_heap.specs.Lists.{list_of}
use Rattle.block_heap.specs.Inside.{AreShort}
use Rattle.block_heap.proofs.Finding.{none_fits, none_fits_beyond, short_blocks, enough_above, free_size}
use Rattle.block_heap.proofs.heap.fitting.Goals as goal

pub returns-then-need-words-clause-none : goal.returns-then-need-words-clause-none
returns-then-need-words-clause-none c = none_fits_beyond c.args.blocks.now.0 c.args.blocks.now.1 c.args.free.now c.args.need c.requires.heap (omega (arith, c.words.ensures.words))

pub returns-in-Some-first_above-clause-some : goal.returns-in-Some-first_above-clause-some
returns-in-Some-first_above-clause-some c =
    let has = c.in-Some-first_above.ensures.some in
    let size = free_size c.args.blocks.now.0 c.args.blocks.now.1 c.args.free.now c.in-Some-first_above.block c.requires.heap has.0 in
    (has.0, has.1, enough_above c.args.need c.in-Some-first_above.block.size size.some (let fits = c.ranges.need.fits in omega arith) (subst (λ n. n < rank_of c.in-Some-first_above.block.size) c.rank_of-rank.ensures.formula has.2))

pub returns-clause-none : goal.returns-clause-none
returns-clause-none c = by c.first_fit.result c.first_fit.ensures.none
  where
    by : (found : Option Block) → IfNone found (AreShort c.args.blocks.now.0 c.args.blocks.now.1 (list_of c.args.free.now c.rank_of-rank.result) c.args.need) → IfNone found (NoneFits c.args.blocks.now.0 c.args.need)
    by None listed =
        let is = c.rank_of-rank.ensures.formula in
        let short = short_blocks c.args.blocks.now.0 c.args.blocks.now.1 c.args.free.now c.rank_of-rank.result c.args.need c.rank_of-rank.ensures.below c.requires.heap.listed listed in
        none_fits c.args.blocks.now.0 c.args.blocks.now.1 c.args.free.now c.args.need c.requires.heap c.requires.some (omega (arith, c.words.ensures.words))
        (λ block among free same. short block among free (same ∙ sym is))
        (subst (λ n. (next : ℕ) → n < next → next < 1152 → length (list_of c.args.free.now next) ≡ 0) is c.in_default-first_above.ensures.none)
    by (Some block) _ = tt
