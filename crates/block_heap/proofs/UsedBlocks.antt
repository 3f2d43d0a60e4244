-- The used blocks: they lie apart in the heap, taking adds one to them, and giving back removes one.
use Rattle.std.proofs.Common.{◌≡◌, ℕ, ◌+◌, ◌-◌, ◌<◌, ◌≤◌, ◌⊎◌, inl, inr, List, [], ◌∷◌, ◌++◌, refl, sym, ap, ◌∙◌, subst, arith, Bool, true, false}
use Rattle.std.specs.List.{All, AllPairs, Contains}
use Rattle.std.proofs.lemmas.List.{get_or_default}
use Rattle.std.proofs.lemmas.List.Elements.{All-nil, All-cons, All-contains, All-weaker, All-filter, All-append, filter-append}
use Rattle.std.proofs.lemmas.List.Kept.{AllPairs-cons}
use Rattle.std.proofs.lemmas.Grind.{common_steps}
use Rattle.block_heap.specs.declared.block.Block.{Block}
use Rattle.block_heap.specs.Blocks.{free_block, used_block, Fills, IsBlockList, words_of, used_blocks}
use Rattle.block_heap.specs.Changes.{merged, IsTaken, IsGiven, IsParted}
use Rattle.block_heap.proofs.Order.{words_of-fills, front_fills, back_fills}
use Rattle.block_heap.proofs.Counting.{used_more, used_same}
use Rattle.block_heap.proofs.Places.{in_middle}
use Rattle.block_heap.proofs.Taking.{place_within}

-- one block more, and all others as they were
pub record AddsBlock (old new : List Block) (block : Block) : Type 0 where
  pub before : List Block
  pub after : List Block
  pub was : old ≡ before ++ after
  pub now : new ≡ before ++ block ∷ after

pub used_blocks-append : (xs ys : List Block) → used_blocks (xs ++ ys) ≡ used_blocks xs ++ used_blocks ys
used_blocks-append xs ys = filter-append (λ (b : Block). b.used) xs ys

pub used_blocks-taken : (old new : List Block) (place need : ℕ) → IsTaken old new place need → AddsBlock (used_blocks old) (used_blocks new) (used_block place need)
used_blocks-taken old new place need taken = grind (arith, common_steps)

-- merging free blocks changes no used one
pub used_blocks-merged : (blocks : List Block) → used_blocks (merged blocks) ≡ used_blocks blocks
used_blocks-merged [] = refl
used_blocks-merged (block ∷ blocks) = grind (arith, common_steps, used_blocks-merged blocks)

pub used_blocks-given : (old new : List Block) (place : ℕ) → (given : IsGiven old new place) → AddsBlock (used_blocks new) (used_blocks old) (used_block place given.size)
used_blocks-given old new place given =
    record {
      before = used_blocks given.before;
      after = used_blocks given.after;
      was =
          grind (arith, common_steps, used_blocks-merged (given.before ++ free_block place given.size ∷ given.after), used_blocks-append given.before (free_block place given.size ∷ given.after));
      now = ap used_blocks given.was ∙ used_blocks-append given.before (used_block place given.size ∷ given.after);
    }

-- a parted block is two used ones, and all others are as they were
pub used_blocks-parted : (old new : List Block) (place need : ℕ) → (parted : IsParted old new place need)
    → (used_blocks old ≡ used_blocks parted.before ++ used_block place parted.size ∷ used_blocks parted.after)
    × (used_blocks new ≡ used_blocks parted.before ++ used_block place need ∷ (used_block (place + need) (parted.size - need) ∷ used_blocks parted.after))
used_blocks-parted old new place need parted = (
  ap used_blocks parted.was ∙ used_blocks-append parted.before (used_block place parted.size ∷ parted.after),
  ap used_blocks parted.now ∙ used_blocks-append parted.before (used_block place need ∷ (used_block (place + need) (parted.size - need) ∷ parted.after)),
)

-- each block lies between the places where the blocks begin and end
all_within : (from end : ℕ) (blocks : List Block) → Fills from blocks end → All (λ block. (from ≤ block.place) × (block.place + block.size ≤ end)) blocks
all_within from end [] h = All-nil (λ (block : Block). (from ≤ block.place) × (block.place + block.size ≤ end))
all_within from end (block ∷ blocks) h =
    grind (arith, common_steps, words_of-fills (from + block.size) end blocks h.2, All-cons, All-weaker, all_within (from + block.size) end blocks h.2)

-- each used block lies in the heap
pub used_within : (words : ℕ) (blocks : List Block) → IsBlockList words blocks → All (λ block. block.place + block.size ≤ words) (used_blocks blocks)
used_within words blocks list =
    All-filter (λ (b : Block). b.used) (λ b. b.place + b.size ≤ words) blocks
    (All-weaker (λ (b : Block). (0 ≤ b.place) × (b.place + b.size ≤ words)) (λ b. b.place + b.size ≤ words) (λ b p. p.1) blocks (all_within 0 words blocks list.fills))

abbrev EndsBefore : Block → Block → Type 0
EndsBefore one other = one.place + one.size ≤ other.place

apart_by : (from end : ℕ) (block : Block) (blocks : List Block) (u : Bool) → block.used ≡ u → Fills from (block ∷ blocks) end → AllPairs EndsBefore (used_blocks blocks) → AllPairs EndsBefore (used_blocks (block ∷ blocks))
apart_by from end block blocks true used h rest =
    let here = h.0 in
    subst (AllPairs EndsBefore) (sym (used_more block blocks used))
    (AllPairs-cons EndsBefore block (used_blocks blocks)
    (All-filter (λ (b : Block). b.used) (EndsBefore block) blocks
    (All-weaker (λ (b : Block). (from + block.size ≤ b.place) × (b.place + b.size ≤ end)) (EndsBefore block) (λ b p. let lower = p.0 in omega arith) blocks
    (all_within (from + block.size) end blocks h.2)))
    rest)
apart_by from end block blocks false free h rest = subst (AllPairs EndsBefore) (sym (used_same block blocks free)) rest

apart : (from end : ℕ) (blocks : List Block) → Fills from blocks end → AllPairs EndsBefore (used_blocks blocks)
apart from end [] h = λ i j d less within. absurd (omega arith)
apart from end (block ∷ blocks) h = apart_by from end block blocks block.used refl h (apart (from + block.size) end blocks h.2)

-- each used block ends before the next one begins
pub used_apart : (words : ℕ) (blocks : List Block) → IsBlockList words blocks → AllPairs (λ one other. one.place + one.size ≤ other.place) (used_blocks blocks)
used_apart words blocks list = apart 0 words blocks list.fills

-- a taken block lies in the heap
pub taken_within : (words : ℕ) (old new : List Block) (place need : ℕ) → IsBlockList words old → IsTaken old new place need → place + need ≤ words
taken_within words old new place need list taken = grind (arith, common_steps, place_within words taken.before taken.after (free_block place taken.size))

-- a taken block lies apart from all that were used before
pub taken_apart : (words : ℕ) (old new : List Block) (place need : ℕ) → IsBlockList words old → IsTaken old new place need
    → All (λ block. (place + need ≤ block.place) ⊎ (block.place + block.size ≤ place)) (used_blocks old)
unfolding used_blocks-taken
taken_apart words old new place need list taken =
    let fills = subst (λ bs. Fills 0 bs words) taken.was list.fills in
    let front = front_fills 0 words taken.before (free_block place taken.size ∷ taken.after) fills in
    let back = back_fills 0 words taken.before (free_block place taken.size ∷ taken.after) fills in
    let here = back.0 in
    let enough = taken.enough in
    let Apart : Block → Type 0 = λ b. (place + need ≤ b.place) ⊎ (b.place + b.size ≤ place) in
    let lower = All-weaker (λ (b : Block). (0 ≤ b.place) × (b.place + b.size ≤ 0 + words_of taken.before)) Apart (λ b p. inr (let upper = p.1 in omega arith)) taken.before
    (all_within 0 (0 + words_of taken.before) taken.before front) in
    let upper = All-weaker (λ (b : Block). ((0 + words_of taken.before) + taken.size ≤ b.place) × (b.place + b.size ≤ words)) Apart (λ b p. inl (let above = p.0 in omega arith)) taken.after
    (all_within ((0 + words_of taken.before) + taken.size) words taken.after back.2) in
    subst (λ (bs : List Block). All Apart bs) (sym ((used_blocks-taken old new place need taken).was))
    (All-append Apart (used_blocks taken.before) (used_blocks taken.after)
    (All-filter (λ (b : Block). b.used) Apart taken.before lower) (All-filter (λ (b : Block). b.used) Apart taken.after upper))

-- a used block lies in the heap
pub block_within : (words : ℕ) (blocks : List Block) → IsBlockList words blocks → (place size : ℕ) → Contains (used_blocks blocks) (used_block place size) → place + size ≤ words
block_within words blocks list place size has = grind (arith, common_steps, All-contains, used_within words blocks list)

-- two used blocks are one, or lie apart
pub same_or_apart : (words : ℕ) (blocks : List Block) → IsBlockList words blocks → (one other : Block) → Contains (used_blocks blocks) one
    → Contains (used_blocks blocks) other → (one ≡ other) ⊎ ((one.place + one.size ≤ other.place) ⊎ (other.place + other.size ≤ one.place))
same_or_apart words blocks list one other has has' =
    let apart = used_apart words blocks list in
    let is = get_or_default (used_blocks blocks) has.0 other one has.1 in
    grind (arith, is, has.1, has.2, has'.1, has'.2, apart has.0 has'.0 other, apart has'.0 has.0 other)

-- a used block that begins where another one does is that one
pub same_size : (words : ℕ) (blocks before after : List Block) (place n size : ℕ) → IsBlockList words blocks → blocks ≡ before ++ used_block place n ∷ after
    → 0 < size → Contains (used_blocks blocks) (used_block place size) → n ≡ size
same_size words blocks before after place n size list is some has =
    let back = back_fills 0 words before (used_block place n ∷ after) (subst (λ bs. Fills 0 bs words) is list.fills) in
    let own = subst (λ (bs : List Block). Contains bs (used_block place n)) (sym (ap used_blocks is ∙ used_blocks-append before (used_block place n ∷ after)))
    (in_middle (used_blocks before) (used_blocks after) (used_block place n)) in
    grind (arith, back.1, some, same_or_apart words blocks list (used_block place n) (used_block place size) own has)
