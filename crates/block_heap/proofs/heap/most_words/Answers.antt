use Rattle.std.proofs.Common.{◌∷◌, ◌++◌, [], sym, ◌∙◌, subst, arith}
use Rattle.std.specs.List.{Contains}
use Rattle.block_heap.specs.Lists.{list_of}
use Rattle.block_heap.specs.Inside.{HasFreeAt, IsMost}
use Rattle.block_heap.proofs.Finding.{walk_first, walk_listed, walk_on, walk_end, has_free, block_at, max_is, most_more}
use Rattle.block_heap.proofs.heap.most_words.Goals.{In-Some}
use Rattle.block_heap.proofs.heap.most_words.Goals as goal

pub loop-listed-init : goal.loop-listed-init
loop-listed-init c = record {
  walk = walk_first (list_of c.args.free.now) c.args.rank c.first-listed.result c.first-listed.ensures;
  most = record { bound = λ block among free none. absurd (let lt = none.1 in omega arith); found = λ more. absurd (omega arith) };
}

abbrev listed : (c : In-Some) → Contains (list_of c.args.free.now c.args.rank) c.in-Some.slot
listed c = walk_listed (list_of c.args.free.now) c.args.rank c.in-Some.slot c.loop-listed.listed c.loop-listed.invariant.walk c.in-Some.is

abbrev has : (c : In-Some) → HasFreeAt c.args.blocks.now.0 c.args.blocks.now.1 c.args.free.now c.in-Some.slot
has c = has_free c.args.blocks.now.0 c.args.blocks.now.1 c.args.free.now c.args.rank c.in-Some.slot c.requires.heap c.requires.rank (listed c)

pub place-place-requires : goal.place-place-requires
place-place-requires c = record { rank = c.args.rank; few = c.requires.rank; among = listed (goal.at.place-place-requires c).In-Some }

pub size_at-requires : goal.size_at-requires
size_at-requires c = block_at c.args.blocks.now.0 c.args.blocks.now.1 c.args.free.now c.in-Some.slot c.place-place.result (has (goal.at.size_at-requires c).In-Some) c.place-place.ensures

pub after-listed-requires : goal.after-listed-requires
after-listed-requires c = record { rank = c.args.rank; few = c.requires.rank; among = listed (goal.at.after-listed-requires c).In-Some }

pub loop-listed-preserved : goal.loop-listed-preserved
loop-listed-preserved c =
    let before = c.loop-listed.invariant.walk.before in
    record {
      walk = walk_on (list_of c.args.free.now) c.args.rank c.in-Some.slot c.loop-listed.listed c.after-listed.result c.loop-listed.invariant.walk c.in-Some.is c.after-listed.ensures;
      most = subst (IsMost c.args.blocks.now.0 c.args.blocks.now.1 (before ++ c.in-Some.slot ∷ [])) (sym (c.max-most.ensures ∙ max_is c.loop-listed.most c.size_at.result))
          (most_more c.args.blocks.now.0 c.args.blocks.now.1 c.args.free.now before c.in-Some.slot c.place-place.result c.size_at.result c.requires.heap c.place-place.ensures c.size_at.ensures
          c.loop-listed.most (has (goal.at.loop-listed-preserved c).In-Some) c.loop-listed.invariant.most);
    }

pub returns : goal.returns
returns c = subst (λ xs. IsMost c.args.blocks.now.0 c.args.blocks.now.1 xs c.loop-listed.most) (walk_end (list_of c.args.free.now) c.args.rank c.loop-listed.listed c.loop-listed.invariant.walk c.in_default.is) c.loop-listed.invariant.most
