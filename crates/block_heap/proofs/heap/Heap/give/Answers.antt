use Rattle.std.proofs.Common.{◌≡◌, ◌<◌, ◌+◌, ◌∷◌, ◌++◌, [], List, length, refl, sym, subst, ap, ◌∙◌, arith}
use Rattle.std.specs.List.{Contains}
use Rattle.block_heap.specs.declared.block.Block.{Block}
use Rattle.block_heap.specs.Blocks.{used_block, IsFree, IsBlockList, Fills, words_of}
use Rattle.block_heap.specs.Changes.{IsGiven}
use Rattle.block_heap.specs.Inside.{IsHeap, blocks_in}
use Rattle.block_heap.specs.Lists.{AreListed, list_of, count_of}
use Rattle.block_heap.specs.Slots.{most_slots}
use Rattle.block_heap.specs.Tags.{Covers, Rewrites}
use Rattle.block_heap.proofs.Giving.{UsedAt, IsFound, IsBlockList-given, has_block, read_at, found, one_of, one_is, before_right}
use Rattle.block_heap.proofs.Keeping.{IsAddable, addable, listable, heap_added}
use Rattle.block_heap.proofs.Listing.{listed_without, listed_slots}
use Rattle.block_heap.proofs.Places.{in_middle}
use Rattle.block_heap.proofs.TagLaws.{slots_stay}
use Rattle.block_heap.proofs.heap.Heap.give.Goals as goal
use Rattle.block_heap.proofs.heap.Heap.give.Goals.{After-free_at-right, After-replace, After-size_at-size}

pub size_at-size-requires : goal.size_at-size-requires
size_at-size-requires c = has_block c.self.inside.blocks.0 _ c.args.place c.self.invariant.list c.self.view_is c.requires

abbrev used : (c : After-size_at-size) → UsedAt (words_of c.self.inside.blocks.0) c.self.inside.blocks.0 c.args.place c.size_at-size.result
used c = read_at c.self.inside.blocks.0 _ c.args.place c.size_at-size.result c.self.invariant.list c.self.view_is c.requires c.size_at-size.ensures

pub free_before-left-requires-clause-seam : goal.free_before-left-requires-clause-seam
free_before-left-requires-clause-seam c =
    let used = used (goal.at.free_before-left-requires-clause-seam c).After-size_at-size in
    record { before = used.before; after = used_block c.args.place c.size_at-size.result ∷ used.after; whole = used.is; here = used.ends }

pub free_before-left-requires-clause-within : goal.free_before-left-requires-clause-within
free_before-left-requires-clause-within c =
    let used = used (goal.at.free_before-left-requires-clause-within c).After-size_at-size in
    let some = used.some in
    let within = used.within in
    omega arith

pub overflow_add-place : goal.overflow_add-place
overflow_add-place c = (let used = used (goal.at.overflow_add-place c).After-size_at-size in let within = used.within in omega (arith, c.self.invariant.limit))

pub free_at-right-requires : goal.free_at-right-requires
free_at-right-requires c =
    let used = used (goal.at.free_at-right-requires c).After-size_at-size in
    record { before = used.before ++ used_block c.args.place c.size_at-size.result ∷ []; after = used.after; whole = used.is_next; here = used.next }

abbrev found_at : (c : After-free_at-right) → IsFound c.self.inside.blocks.0 c.args.place c.size_at-size.result c.free_before-left.result c.free_at-right.result
found_at c =
    found c.self.inside.blocks.0 c.args.place c.size_at-size.result c.free_before-left.result c.free_at-right.result c.self.invariant.list
    (read_at c.self.inside.blocks.0 _ c.args.place c.size_at-size.result c.self.invariant.list c.self.view_is c.requires c.size_at-size.ensures) c.free_before-left.ensures c.free_at-right.ensures

pub unlist-before-requires : goal.unlist-before-requires
unlist-before-requires c =
    let f = found_at (goal.at.unlist-before-requires c).After-free_at-right in
    let rest = used_block c.args.place c.size_at-size.result ∷ (blocks_in c.free_at-right.result ++ f.parts.back) in
    listable c.self.inside.blocks.0 c.self.inside.blocks.1 c.self.inside.free c.self.inside.free c.free_before-left.result f.parts.front rest f.parts.front rest c.self.invariant f.parts.was
    (subst (AreListed c.self.inside.free c.self.inside.blocks.1) f.parts.was c.self.invariant.listed) f.parts.left_free

pub unlist-after-requires : goal.unlist-after-requires
unlist-after-requires c =
    let f = found_at (goal.at.unlist-after-requires c).After-free_at-right in
    let used = used_block c.args.place c.size_at-size.result in
    let rest = blocks_in c.free_at-right.result ++ f.parts.back in
    listable c.self.inside.blocks.0 c.self.inside.blocks.1 c.self.inside.free c.unlist-before.new.free c.free_at-right.result
    (f.parts.front ++ (blocks_in c.free_before-left.result ++ used ∷ [])) f.parts.back f.parts.front f.parts.back c.self.invariant
    (before_right (words_of c.self.inside.blocks.0) c.self.inside.blocks.0 c.args.place c.size_at-size.result c.free_before-left.result c.free_at-right.result f.parts)
    (listed_without c.unlist-before.new.free c.self.inside.blocks.1 f.parts.front rest used refl
    (c.unlist-before.ensures.listed f.parts.front (used ∷ rest) (subst (AreListed c.self.inside.free c.self.inside.blocks.1) f.parts.was c.self.invariant.listed))) f.parts.right_free

pub overflow_sub-place : goal.overflow_sub-place
overflow_sub-place c = (let f = found_at (goal.at.overflow_sub-place c).After-free_at-right in let enough = f.parts.enough in omega (arith, c.unlist-before.ensures.size))

pub overflow_add-before : goal.overflow_add-before
overflow_add-before c = (let f = found_at (goal.at.overflow_add-before c).After-free_at-right in let within = f.joined.within in omega (arith, c.unlist-before.ensures.size, c.unlist-after.ensures.size, c.self.invariant.limit))

pub overflow_add-before-2 : goal.overflow_add-before-2
overflow_add-before-2 c = (let f = found_at (goal.at.overflow_add-before-2 c).After-free_at-right in let within = f.joined.within in omega (arith, c.unlist-before.ensures.size, c.unlist-after.ensures.size, c.self.invariant.limit))

pub replace-requires-clause-some : goal.replace-requires-clause-some
replace-requires-clause-some c =
    let f = found_at (goal.at.replace-requires-clause-some c).After-free_at-right in
    let some = f.joined.some in
    omega (arith, c.unlist-before.ensures.size, c.unlist-after.ensures.size, ap (λ (b : Block). b.size) c.free-block.ensures)

pub replace-requires-clause-covers : goal.replace-requires-clause-covers
replace-requires-clause-covers c =
    let f = found_at (goal.at.replace-requires-clause-covers c).After-free_at-right in
    let is = one_is c.args.place c.unlist-before.result c.size_at-size.result c.unlist-after.result c.free_before-left.result c.free_at-right.result
    c.free-block.result c.free-block.ensures c.unlist-before.ensures.size c.unlist-after.ensures.size in
    subst (Covers c.self.inside.blocks.0) (sym is) (record { before = f.parts.front; middle = _; after = f.parts.back; whole = f.joined.whole; fills = f.joined.fills })

-- the block was put in its neighbours' place
module _ (c : After-replace) where
  abbrev made : Block
  made = one_of c.args.place c.size_at-size.result c.free_before-left.result c.free_at-right.result

  abbrev f : IsFound c.self.inside.blocks.0 c.args.place c.size_at-size.result c.free_before-left.result c.free_at-right.result
  f = found c.self.inside.blocks.0 c.args.place c.size_at-size.result c.free_before-left.result c.free_at-right.result c.self.invariant.list
      (read_at c.self.inside.blocks.0 _ c.args.place c.size_at-size.result c.self.invariant.list c.self.view_is c.requires c.size_at-size.ensures) c.free_before-left.ensures c.free_at-right.ensures

  abbrev middle : List Block
  middle = blocks_in c.free_before-left.result ++ used_block c.args.place c.size_at-size.result ∷ blocks_in c.free_at-right.result

  is_made : c.free-block.result ≡ made
  is_made = one_is c.args.place c.unlist-before.result c.size_at-size.result c.unlist-after.result c.free_before-left.result c.free_at-right.result
      c.free-block.result c.free-block.ensures c.unlist-before.ensures.size c.unlist-after.ensures.size

  now_is : c.replace.new.self.0 ≡ f.parts.front ++ made ∷ f.parts.back
  now_is =
      c.replace.ensures.blocks f.parts.front middle f.parts.back f.joined.whole (subst (λ (b : Block). Fills b.place middle (b.place + b.size)) (sym is_made) f.joined.fills)
      ∙ ap (λ b. f.parts.front ++ b ∷ f.parts.back) is_made

  block_is : c.replace.new.self.0 ≡ f.parts.front ++ c.free-block.result ∷ f.parts.back
  block_is = now_is ∙ ap (λ b. f.parts.front ++ b ∷ f.parts.back) (sym is_made)

  given : IsGiven c.self.inside.blocks.0 c.replace.new.self.0 c.args.place
  given = f.parts.given c.replace.new.self.0 now_is

  list : IsBlockList (words_of c.self.inside.blocks.0) c.replace.new.self.0
  list = IsBlockList-given (words_of c.self.inside.blocks.0) c.self.inside.blocks.0 c.replace.new.self.0 c.args.place c.self.invariant.list given

  listed : AreListed c.unlist-after.new.free c.replace.new.self.1 (f.parts.front ++ f.parts.back)
  listed =
      let rest = blocks_in c.free_at-right.result ++ f.parts.back in
      let used = used_block c.args.place c.size_at-size.result in
      let some = f.joined.some in
      listed_slots c.unlist-after.new.free c.self.inside.blocks.1 c.replace.new.self.1 (f.parts.front ++ f.parts.back)
      (slots_stay (words_of c.self.inside.blocks.0) c.self.inside.blocks.1 c.replace.new.self.1 f.parts.front middle f.parts.back made.place (made.place + made.size) (omega arith)
      (subst (λ xs. Fills 0 xs (words_of c.self.inside.blocks.0)) f.joined.whole c.self.invariant.list.fills) f.joined.fills
      (subst (λ (b : Block). Rewrites c.self.inside.blocks.1 c.replace.new.self.1 b.place (b.place + b.size)) is_made c.replace.ensures.tags))
      (c.unlist-after.ensures.listed f.parts.front f.parts.back (listed_without c.unlist-before.new.free c.self.inside.blocks.1 f.parts.front rest used refl
      (c.unlist-before.ensures.listed f.parts.front (used ∷ rest) (subst (AreListed c.self.inside.free c.self.inside.blocks.1) f.parts.was c.self.invariant.listed))))

  may_add : IsAddable (words_of c.self.inside.blocks.0) c.unlist-after.new.free c.free-block.result
  may_add = addable (words_of c.self.inside.blocks.0) c.unlist-after.new.free c.replace.new.self.1 c.replace.new.self.0 f.parts.front f.parts.back c.free-block.result c.self.invariant.limit list block_is
      (subst IsFree (sym is_made) refl) listed

pub rank_of-rank-requires : goal.rank_of-rank-requires
rank_of-rank-requires c = (may_add (goal.at.rank_of-rank-requires c).After-replace).some

pub add-slot-requires-clause-room : goal.add-slot-requires-clause-room
add-slot-requires-clause-room c =
    let room = (may_add (goal.at.add-slot-requires-clause-room c).After-replace).room in
    omega (arith, ap (λ k. length (list_of c.unlist-after.new.free k)) c.rank_of-rank.ensures.formula, c.unlist-after.ensures.words, c.unlist-before.ensures.words, c.self.invariant.same)

pub add-slot-requires-clause-spare : goal.add-slot-requires-clause-spare
add-slot-requires-clause-spare c =
    let spare = (may_add (goal.at.add-slot-requires-clause-spare c).After-replace).spare in
    subst (λ n. count_of c.unlist-after.new.free < most_slots n) (sym (c.unlist-after.ensures.words ∙ c.unlist-before.ensures.words ∙ c.self.invariant.same)) spare

pub put_slot-requires-clause-among : goal.put_slot-requires-clause-among
put_slot-requires-clause-among c =
    let r = (goal.at.put_slot-requires-clause-among c).After-replace in
    let f = f r in
    subst (λ (bs : List Block). Contains bs c.free-block.result) (sym (block_is r)) (in_middle f.parts.front f.parts.back c.free-block.result)

pub invariant_of-self : goal.invariant_of-self
invariant_of-self c =
    let r = (goal.at.invariant_of-self c).After-replace in
    let f = f r in
    let block = c.free-block.result in
    subst (λ (bs : List Block). IsHeap bs c.put_slot.new.self.1 c.add-slot.new.self) (sym c.put_slot.ensures.blocks)
    (heap_added c.self.inside.blocks.0 c.replace.new.self.0 c.self.inside.blocks.1 c.replace.new.self.1 c.put_slot.new.self.1 c.self.inside.free c.unlist-after.new.free c.add-slot.new.self
    f.parts.front f.parts.back block c.self.invariant (list r) (block_is r) (subst IsFree (sym (is_made r)) refl) (listed r)
    c.rank_of-rank.result c.add-slot.result c.rank_of-rank.ensures.formula c.add-slot.ensures.added c.add-slot.ensures.others c.add-slot.ensures.here c.add-slot.ensures.stay c.add-slot.ensures.count
    c.put_slot.ensures.slot c.put_slot.ensures.tags (c.add-slot.ensures.words ∙ c.unlist-after.ensures.words ∙ c.unlist-before.ensures.words))

pub returns-clause-given : goal.returns-clause-given
returns-clause-given c =
    subst (λ (bs : List Block). IsGiven c.args.self.now bs c.args.place) (sym c.put_slot.ensures.blocks)
    (subst (λ (bs : List Block). IsGiven bs c.replace.new.self.0 c.args.place) c.self.view_is (given (goal.at.returns-clause-given c).After-replace))

pub returns-clause-blocks : goal.returns-clause-blocks
returns-clause-blocks c =
    subst (IsBlockList (words_of c.args.self.now)) (sym c.put_slot.ensures.blocks)
    (subst (λ (bs : List Block). IsBlockList (words_of bs) c.replace.new.self.0) c.self.view_is (list (goal.at.returns-clause-blocks c).After-replace))
