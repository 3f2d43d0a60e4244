use Rattle.std.proofs.Common.{refl, ap, ◌∙◌, subst, sym, arith}
use Rattle.std.specs.List.{Contains}
use Rattle.block_heap.specs.Lists.{list_of, place_in}
use Rattle.block_heap.specs.Inside.{HasFreeAt}
use Rattle.block_heap.proofs.Finding.{has_free, block_at, found_at}
use Rattle.block_heap.proofs.Listing.{block_listed}
use Rattle.block_heap.proofs.heap.first_of.Goals.{In_ok-slot}
use Rattle.block_heap.proofs.heap.first_of.Goals as goal

abbrev listed : (c : In_ok-slot) → Contains (list_of c.args.free.now c.args.rank) c.in_ok-slot.slot
listed c = subst (λ xs. Contains xs c.in_ok-slot.slot) c.in_ok-slot.ensures (0, omega arith, refl)

abbrev has : (c : In_ok-slot) → HasFreeAt c.args.blocks.now.0 c.args.blocks.now.1 c.args.free.now c.in_ok-slot.slot
has c = has_free c.args.blocks.now.0 c.args.blocks.now.1 c.args.free.now c.args.rank c.in_ok-slot.slot c.requires.heap c.requires.rank (listed c)

pub place-place-requires : goal.place-place-requires
place-place-requires c = record { rank = c.args.rank; few = c.requires.rank; among = listed (goal.at.place-place-requires c).In_ok-slot }

pub size_at-requires : goal.size_at-requires
size_at-requires c = block_at c.args.blocks.now.0 c.args.blocks.now.1 c.args.free.now c.in_ok-slot.slot c.place-place.result (has (goal.at.size_at-requires c).In_ok-slot) c.place-place.ensures

pub returns-clause-some : goal.returns-clause-some
returns-clause-some c =
    let at = (goal.at.returns-clause-some c).In_ok-slot in
    let has = has at in
    let place = c.place-place.result in
    let among = found_at c.args.blocks.now.0 c.args.blocks.now.1 c.args.free.now c.in_ok-slot.slot place has c.place-place.ensures c.size_at.result c.size_at.ensures in
    let one = block_listed c.args.free.now c.args.blocks.now.1 c.args.blocks.now.0 c.args.rank c.in_ok-slot.slot c.requires.rank c.requires.heap.listed (listed at) in
    let here = sym (c.requires.heap.listed.places one.block one.among one.free) ∙ ap (place_in c.args.free.now) one.here ∙ sym c.place-place.ensures in
    let same = c.size_at.ensures one.block one.among here in
    rw c.free.ensures (among, refl, rw same one.is)
