use Rattle.std.proofs.Common.{refl, sym, subst, arith}
use Rattle.std.specs.List.{Contains}
use Rattle.block_heap.specs.Lists.{list_of}
use Rattle.block_heap.specs.Inside.{HasFreeAt}
use Rattle.block_heap.specs.Tags.{slot_of}
use Rattle.block_heap.proofs.Finding.{walk_first, walk_listed, walk_on, walk_end, has_free, block_at, found_at, short_more}
use Rattle.block_heap.proofs.heap.first_fit.Goals.{In-Some}
use Rattle.block_heap.proofs.heap.first_fit.Goals as goal

pub loop-listed-init : goal.loop-listed-init
loop-listed-init c = record { walk = walk_first (list_of c.args.free.now) c.args.rank c.first-listed.result c.first-listed.ensures; short = λ block among free none. absurd (let lt = none.1 in omega arith) }

abbrev listed : (c : In-Some) → Contains (list_of c.args.free.now c.args.rank) c.in-Some.slot
listed c = walk_listed (list_of c.args.free.now) c.args.rank c.in-Some.slot c.loop-listed.listed c.loop-listed.invariant.walk c.in-Some.is

abbrev has : (c : In-Some) → HasFreeAt c.args.blocks.now.0 c.args.blocks.now.1 c.args.free.now c.in-Some.slot
has c = has_free c.args.blocks.now.0 c.args.blocks.now.1 c.args.free.now c.args.rank c.in-Some.slot c.requires.heap c.requires.rank (listed c)

pub place-place-requires : goal.place-place-requires
place-place-requires c = record { rank = c.args.rank; few = c.requires.rank; among = listed (goal.at.place-place-requires c).In-Some }

pub size_at-size-requires : goal.size_at-size-requires
size_at-size-requires c = block_at c.args.blocks.now.0 c.args.blocks.now.1 c.args.free.now c.in-Some.slot c.place-place.result (has (goal.at.size_at-size-requires c).In-Some) c.place-place.ensures

pub returns-then-size-need-clause-some : goal.returns-then-size-need-clause-some
returns-then-size-need-clause-some c =
    let has = has (goal.at.returns-then-size-need-clause-some c).In-Some in
    rw c.free.ensures (found_at c.args.blocks.now.0 c.args.blocks.now.1 c.args.free.now c.in-Some.slot c.place-place.result has c.place-place.ensures c.size_at-size.result c.size_at-size.ensures, refl, omega arith)

pub after-listed-requires : goal.after-listed-requires
after-listed-requires c = record { rank = c.args.rank; few = c.requires.rank; among = listed (goal.at.after-listed-requires c).In-Some }

pub loop-listed-preserved : goal.loop-listed-preserved
loop-listed-preserved c = record {
  walk = walk_on (list_of c.args.free.now) c.args.rank c.in-Some.slot c.loop-listed.listed c.after-listed.result c.loop-listed.invariant.walk c.in-Some.is c.after-listed.ensures;
  short = short_more c.args.blocks.now.0 c.args.blocks.now.1 c.args.free.now c.loop-listed.invariant.walk.before c.in-Some.slot c.place-place.result c.size_at-size.result c.requires.heap c.place-place.ensures c.size_at-size.ensures
      c.args.need c.if-size-need.false c.loop-listed.invariant.short;
}

pub returns-clause-none : goal.returns-clause-none
returns-clause-none c = λ block among free listed.
    c.loop-listed.invariant.short block among free
    (subst (λ xs. Contains xs (slot_of c.args.blocks.now.1 block)) (sym (walk_end (list_of c.args.free.now) c.args.rank c.loop-listed.listed c.loop-listed.invariant.walk c.in_default.is)) listed)
