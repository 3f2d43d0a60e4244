use Rattle.std.proofs.Common.{◌≡◌, ◌+◌, ◌-◌, ◌<◌, List, length, refl, sym, subst, ap, ◌∙◌, arith}
use Rattle.std.specs.List.{Contains}
use Rattle.std.specs.Option.{IfNone}
use Rattle.block_heap.specs.declared.block.Block.{Block}
use Rattle.block_heap.specs.Blocks.{free_block, IsFree, MayLack, NoneFits, IsBlockList, words_of}
use Rattle.block_heap.specs.Changes.{IsTaken}
use Rattle.block_heap.specs.Lists.{list_of, count_of, IsWithout}
use Rattle.block_heap.specs.Ranks.{rank_of}
use Rattle.block_heap.specs.Slots.{most_slots}
use Rattle.block_heap.specs.Inside.{IsHeap}
use Rattle.block_heap.specs.Tags.{slot_of, Rewrites}
use Rattle.block_heap.proofs.Counting.{not_none_fits}
use Rattle.block_heap.proofs.Finding.{FreeSize, free_size, lacks}
use Rattle.block_heap.proofs.Keeping.{Taken, IsRest, IsAddable, taken_block, taken_whole, taken_part, addable, heap_added}
use Rattle.block_heap.proofs.Listing.{slot_listed, some_listed}
use Rattle.block_heap.proofs.Places.{in_middle}
use Rattle.block_heap.proofs.heap.Heap.take.Goals as goal
use Rattle.block_heap.proofs.heap.Heap.take.Goals.{After-cut, In_ok-block}

abbrev size : (c : In_ok-block) → FreeSize c.self.inside.blocks.0 c.in_ok-block.block
size c = free_size c.self.inside.blocks.0 c.self.inside.blocks.1 c.self.inside.free c.in_ok-block.block c.self.invariant c.in_ok-block.ensures.some.0

pub slot_at-slot-requires : goal.slot_at-slot-requires
slot_at-slot-requires c =
    let size = size (goal.at.slot_at-slot-requires c).In_ok-block in
    let some = size.some in
    let within = size.within in
    omega (arith, c.self.invariant.limit)

pub rank_of-requires : goal.rank_of-requires
rank_of-requires c = (size (goal.at.rank_of-requires c).In_ok-block).some

pub remove-requires-clause-listed : goal.remove-requires-clause-listed
remove-requires-clause-listed c =
    let fit = c.in_ok-block.ensures.some in
    subst (Contains (list_of c.self.inside.free c.rank_of.result)) (sym c.slot_at-slot.ensures)
    (slot_listed c.self.inside.free c.self.inside.blocks.1 c.self.inside.blocks.0 c.in_ok-block.block c.rank_of.result c.rank_of.ensures.below (sym c.rank_of.ensures.formula) c.self.invariant.listed fit.0 fit.1)

pub remove-requires-clause-some : goal.remove-requires-clause-some
remove-requires-clause-some c =
    let fit = c.in_ok-block.ensures.some in
    some_listed c.self.inside.free c.self.inside.blocks.1 c.self.inside.blocks.0 c.in_ok-block.block c.self.invariant.listed fit.0 fit.1

abbrev taken : (c : After-cut) → Taken c.self.inside.blocks.0 c.cut.new.self.0 c.remove.new.self c.cut.new.self.1 c.in_ok-block.block c.args.need
taken c =
    let fit = c.in_ok-block.ensures.some in
    taken_block c.self.inside.blocks.0 c.cut.new.self.0 c.self.inside.blocks.1 c.cut.new.self.1 c.self.inside.free c.remove.new.self c.in_ok-block.block c.args.need c.self.invariant c.requires fit.2 fit.0 fit.1
    c.rank_of.result c.rank_of.ensures.formula (subst (IsWithout (list_of c.self.inside.free c.rank_of.result) (list_of c.remove.new.self c.rank_of.result)) c.slot_at-slot.ensures c.remove.ensures.removed)
    c.remove.ensures.others c.remove.ensures.stay c.remove.ensures.count c.cut.ensures.blocks c.cut.ensures.tags

abbrev rest_of_it : (c : After-cut) → Block
rest_of_it c = free_block (c.in_ok-block.block.place + c.args.need) (c.in_ok-block.block.size - c.args.need)

abbrev part : (c : After-cut) → c.args.need < c.in_ok-block.block.size → IsRest c.cut.new.self.0 c.remove.new.self c.cut.new.self.1 (rest_of_it c)
part c some = taken_part c.self.inside.blocks.0 c.cut.new.self.0 c.remove.new.self c.cut.new.self.1 c.in_ok-block.block c.args.need some (taken c)

abbrev rest : (c : After-cut) → c.args.need < c.in_ok-block.block.size → IsAddable (words_of c.self.inside.blocks.0) c.remove.new.self (rest_of_it c)
rest c some =
    let part = part c some in
    addable (words_of c.self.inside.blocks.0) c.remove.new.self c.cut.new.self.1 c.cut.new.self.0 part.before part.after (rest_of_it c) c.self.invariant.limit (taken c).list part.is refl part.listed

pub overflow_add-block : goal.overflow_add-block
overflow_add-block c = (let rest = rest (goal.at.overflow_add-block c).After-cut c.if-need-block.true in let within = rest.limit in omega arith)

pub add-slot-requires-clause-room : goal.add-slot-requires-clause-room
add-slot-requires-clause-room c =
    let room = (rest (goal.at.add-slot-requires-clause-room c).After-cut c.if-need-block.true).room in
    let is = c.rank_of-rank.ensures.formula ∙ ap (λ (b : Block). rank_of b.size) c.free-rest.ensures in
    omega (arith, ap (λ k. length (list_of c.remove.new.self k)) is, c.remove.ensures.words, c.self.invariant.same)

pub add-slot-requires-clause-spare : goal.add-slot-requires-clause-spare
add-slot-requires-clause-spare c =
    let spare = (rest (goal.at.add-slot-requires-clause-spare c).After-cut c.if-need-block.true).spare in
    subst (λ n. count_of c.remove.new.self < most_slots n) (sym (c.remove.ensures.words ∙ c.self.invariant.same)) spare

pub rank_of-rank-requires : goal.rank_of-rank-requires
rank_of-rank-requires c = omega (arith, ap (λ (b : Block). b.size) c.free-rest.ensures, c.if-need-block.true)

pub put_slot-requires-clause-among : goal.put_slot-requires-clause-among
put_slot-requires-clause-among c =
    let at = (goal.at.put_slot-requires-clause-among c).After-cut in
    let part = part at c.if-need-block.true in
    subst (λ (b : Block). Contains c.cut.new.self.0 b) (sym c.free-rest.ensures) (subst (λ (bs : List Block). Contains bs (rest_of_it at)) (sym part.is) (in_middle part.before part.after (rest_of_it at)))

pub put_slot-requires-clause-free : goal.put_slot-requires-clause-free
put_slot-requires-clause-free c = subst IsFree (sym c.free-rest.ensures) refl

pub invariant_of-self : goal.invariant_of-self
invariant_of-self c =
    let at = (goal.at.invariant_of-self c).After-cut in
    let part = part at c.if-need-block.true in
    let rest = rest_of_it at in
    let is = c.free-rest.ensures in
    let rank = c.rank_of-rank.ensures.formula ∙ ap (λ (b : Block). rank_of b.size) is in
    subst (λ (bs : List Block). IsHeap bs c.put_slot.new.self.1 c.add-slot.new.self) (sym c.put_slot.ensures.blocks)
    (heap_added c.self.inside.blocks.0 c.cut.new.self.0 c.self.inside.blocks.1 c.cut.new.self.1 c.put_slot.new.self.1 c.self.inside.free c.remove.new.self c.add-slot.new.self part.before part.after
    rest c.self.invariant (taken at).list part.is refl part.listed
    c.rank_of-rank.result c.add-slot.result rank c.add-slot.ensures.added c.add-slot.ensures.others (c.add-slot.ensures.here ∙ ap (λ (b : Block). b.place) is) c.add-slot.ensures.stay c.add-slot.ensures.count
    (subst (λ b. slot_of c.put_slot.new.self.1 b ≡ c.add-slot.result) is c.put_slot.ensures.slot)
    (subst (λ (b : Block). Rewrites c.cut.new.self.1 c.put_slot.new.self.1 b.place (b.place + b.size)) is c.put_slot.ensures.tags) (c.add-slot.ensures.words ∙ c.remove.ensures.words))

pub invariant_of-self-else-need-block : goal.invariant_of-self-else-need-block
invariant_of-self-else-need-block c =
    taken_whole c.self.inside.blocks.0 c.cut.new.self.0 c.self.inside.blocks.1 c.cut.new.self.1 c.self.inside.free c.remove.new.self c.in_ok-block.block c.args.need c.self.invariant (omega arith)
    (taken (goal.at.invariant_of-self-else-need-block c).After-cut) c.remove.ensures.words

pub returns-then-need-block-clause-none : goal.returns-then-need-block-clause-none
returns-then-need-block-clause-none c =
    let taken = (taken (goal.at.returns-then-need-block-clause-none c).After-cut).taken in (
      λ e. absurd (cc),
      λ none. absurd (not_none_fits taken.before taken.after c.in_ok-block.block.place taken.size c.args.need taken.enough (subst (λ (bs : List Block). NoneFits bs c.args.need) (sym c.self.view_is ∙ taken.was) none)),
    )

pub returns-then-need-block-clause-taken : goal.returns-then-need-block-clause-taken
returns-then-need-block-clause-taken c =
    subst (λ (bs : List Block). IsTaken c.args.self.now bs c.in_ok-block.block.place c.args.need) (sym c.put_slot.ensures.blocks)
    (subst (λ (bs : List Block). IsTaken bs c.cut.new.self.0 c.in_ok-block.block.place c.args.need) c.self.view_is (taken (goal.at.returns-then-need-block-clause-taken c).After-cut).taken)

pub returns-then-need-block-clause-blocks : goal.returns-then-need-block-clause-blocks
returns-then-need-block-clause-blocks c =
    subst (IsBlockList (words_of c.args.self.now)) (sym c.put_slot.ensures.blocks)
    (subst (λ (bs : List Block). IsBlockList (words_of bs) c.cut.new.self.0) c.self.view_is (taken (goal.at.returns-then-need-block-clause-blocks c).After-cut).list)

pub returns-else-need-block-clause-none : goal.returns-else-need-block-clause-none
returns-else-need-block-clause-none c =
    let taken = (taken (goal.at.returns-else-need-block-clause-none c).After-cut).taken in (
      λ e. absurd (cc),
      λ none. absurd (not_none_fits taken.before taken.after c.in_ok-block.block.place taken.size c.args.need taken.enough (subst (λ (bs : List Block). NoneFits bs c.args.need) (sym c.self.view_is ∙ taken.was) none)),
    )

pub returns-else-need-block-clause-taken : goal.returns-else-need-block-clause-taken
returns-else-need-block-clause-taken c = subst (λ (bs : List Block). IsTaken bs c.cut.new.self.0 c.in_ok-block.block.place c.args.need) c.self.view_is (taken (goal.at.returns-else-need-block-clause-taken c).After-cut).taken

pub returns-else-need-block-clause-blocks : goal.returns-else-need-block-clause-blocks
returns-else-need-block-clause-blocks c = subst (λ (bs : List Block). IsBlockList (words_of bs) c.cut.new.self.0) c.self.view_is (taken (goal.at.returns-else-need-block-clause-blocks c).After-cut).list

pub returns-in_err-block-clause-may_lack : goal.returns-in_err-block-clause-may_lack
returns-in_err-block-clause-may_lack c =
    let none = lacks c.self.inside.blocks.0 c.self.inside.blocks.1 c.self.inside.free c.args.need c.self.invariant c.in_err-block.ensures.none in
    subst (λ r. IfNone r (MayLack c.args.self.now c.args.need)) (sym c.from_residual.ensures) (subst (λ (bs : List Block). MayLack bs c.args.need) c.self.view_is none)
