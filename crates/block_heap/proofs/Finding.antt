-- What a search in the lists found, or did not find.
use Rattle.std.proofs.Common.{◌≡◌, ℕ, zero, suc, ◌+◌, ◌^◌, ◌<◌, ◌≤◌, ◌⊎◌, inl, inr, max, Bool, true, false, Option, Some, None, List, [], ◌∷◌, ◌++◌, length, get_or, refl, sym, ap, ◌∙◌, subst, arith, append_assoc}
use Rattle.std.specs.List.{All, Contains}
use Rattle.std.specs.Ordering.{ord_max, nat_cmp}
use Rattle.std.proofs.lemmas.Bool.{cases_eq, cases_lt}
use Rattle.std.proofs.lemmas.List.{get_or_default, append-nil}
use Rattle.std.proofs.lemmas.List.Elements.{All-nil, All-cons, Contains-append_cases}
use Rattle.std.proofs.lemmas.Grind.{common_steps}
use Rattle.block_heap.specs.Ranks.{rank_of}
use Rattle.block_heap.proofs.Ranking.{rises, few_ranks}
use Rattle.block_heap.specs.declared.block.TheConstants.{MOST_WORDS}
use Rattle.block_heap.specs.declared.block.Block.{Block}
use Rattle.block_heap.specs.Blocks.{free_block, IsFree, IsLargest, free_sizes, NoneFits, MayLack, words_of}
use Rattle.block_heap.specs.Links.{node_of}
use Rattle.block_heap.specs.Lists.{Lists, list_of, place_in, AreListed, left_from}
use Rattle.block_heap.specs.Tags.{slot_of, HasBlock}
use Rattle.block_heap.specs.Inside.{IsHeap, HasFreeAt, AreShort, IsMost}
use Rattle.block_heap.proofs.Places.{in_middle, free_is, free_within}
use Rattle.block_heap.proofs.Counting.{free_more, free_same, MayLack-none_fits}
use Rattle.block_heap.proofs.Listing.{slot_listed, list_filled, block_listed}

-- what holds of the size of each free block
pub all_free : (P : ℕ → Type 0) (blocks : List Block) → ((block : Block) → Contains blocks block → IsFree block → P block.size) → All P (free_sizes blocks)
all_free P [] h = All-nil P
all_free P (block ∷ blocks) h = by (all_free P blocks (λ b among free. h b (suc among.0, (let lt = among.1 in omega arith), among.2) free)) block.used refl
  where
    by : All P (free_sizes blocks) → (u : Bool) → block.used ≡ u → All P (free_sizes (block ∷ blocks))
    by rest true used = subst (All P) (sym (free_same block blocks used)) rest
    by rest false free = subst (All P) (sym (free_more block blocks free)) (All-cons P block.size (free_sizes blocks) (h block (0, omega arith, refl) free) rest)

-- a free block's size is one of the sizes
pub size_among : (blocks : List Block) (block : Block) → Contains blocks block → IsFree block → Contains (free_sizes blocks) block.size
size_among [] block among free = absurd (let lt = among.1 in omega arith)
size_among (b ∷ blocks) block (zero, lt, is) free = grind (arith, common_steps)
size_among (b ∷ blocks) block (suc k, lt, is) free = by (size_among blocks block (k, omega arith, is) free) b.used refl
  where
    by : Contains (free_sizes blocks) block.size → (u : Bool) → b.used ≡ u → Contains (free_sizes (b ∷ blocks)) block.size
    by rest true used = subst (λ (sizes : List ℕ). Contains sizes block.size) (sym (free_same b blocks used)) rest
    by rest false is_free = subst (λ (sizes : List ℕ). Contains sizes block.size) (sym (free_more b blocks is_free)) (suc rest.0, (let lt = rest.1 in omega arith), rest.2)

-- a free block's size is within the limits
pub record FreeSize (blocks : List Block) (block : Block) : Type 0 where
  pub some : 1 ≤ block.size
  pub limit : block.size ≤ MOST_WORDS
  pub within : block.place + block.size ≤ words_of blocks
  pub few : rank_of block.size < 1152

pub free_size : (blocks : List Block) (tags : List ℕ) (lists : Lists) (block : Block) → IsHeap blocks tags lists → Contains blocks block → FreeSize blocks block
free_size blocks tags lists block heap among =
    let lies = free_within (words_of blocks) blocks block heap.list.fills among in
    let some = lies.0 in
    let within = lies.1 in
    let limit = heap.limit in
    record { some = omega arith; limit = omega arith; within = within; few = few_ranks block.size }

-- where the rank of the need has none that fits and no rank above has any, none fits
pub none_fits : (blocks : List Block) (tags : List ℕ) (lists : Lists) (need : ℕ) → IsHeap blocks tags lists → 1 ≤ need → need ≤ words_of blocks
    → ((block : Block) → Contains blocks block → IsFree block → rank_of block.size ≡ rank_of need → block.size < need) → ((next : ℕ) → rank_of need < next → next < 1152 → length (list_of lists next) ≡ 0) → NoneFits blocks need
none_fits blocks tags lists need heap some limit short above = all_free (λ size. size < need) blocks (λ block among free. by block among free (cases_lt block.size need) (cases_lt (rank_of need) (rank_of block.size)))
  where
    by : (block : Block) → Contains blocks block → IsFree block → (block.size < need) ⊎ (need ≤ block.size) → (rank_of need < rank_of block.size) ⊎ (rank_of block.size ≤ rank_of need) → block.size < need
    by block among free (inl less) _ = less
    by block among free (inr le) (inl higher) =
        let size = free_size blocks tags lists block heap among in
        let none = above (rank_of block.size) higher size.few in
        let filled = list_filled lists tags blocks block (rank_of block.size) size.few refl heap.listed among free in
        absurd (omega arith)
    by block among free (inr le) (inr lower) =
        let size = free_size blocks tags lists block heap among in
        let bound = size.limit in
        let rise = rises need block.size some le (omega arith) in
        let same : rank_of block.size ≡ rank_of need = omega arith in
        short block among free same

-- of a rank that was searched whole, each free block has fewer words
pub short_blocks : (blocks : List Block) (tags : List ℕ) (lists : Lists) (rank need : ℕ) → rank < 1152 → AreListed lists tags blocks → AreShort blocks tags (list_of lists rank) need
    → (block : Block) → Contains blocks block → IsFree block → rank_of block.size ≡ rank → block.size < need
short_blocks blocks tags lists rank need few listed short block among free same = short block among free (slot_listed lists tags blocks block rank few same listed among free)

-- a need beyond all words
pub none_fits_beyond : (blocks : List Block) (tags : List ℕ) (lists : Lists) (need : ℕ) → IsHeap blocks tags lists → words_of blocks < need → NoneFits blocks need
none_fits_beyond blocks tags lists need heap beyond =
    all_free (λ size. size < need) blocks (λ block among free. (let size = free_size blocks tags lists block heap among in let within = size.within in omega arith))

-- a block of a rank above that of a need is large enough
pub enough_above : (need size : ℕ) → 1 ≤ size → need < 2 ^ 32 → rank_of need < rank_of size → need ≤ size
enough_above need size some limit above = by (cases_lt size need)
  where
    by : (size < need) ⊎ (need ≤ size) → need ≤ size
    by (inl less) = absurd (let rise = rises size need some (omega arith) limit in omega arith)
    by (inr le) = le

-- no free block is larger than the largest one of the last rank
pub is_largest : (blocks : List Block) (tags : List ℕ) (lists : Lists) (last most : ℕ) → IsHeap blocks tags lists → last < 1152 → IsMost blocks tags (list_of lists last) most
    → 0 < length (list_of lists last) → ((above : ℕ) → last < above → above < 1152 → length (list_of lists above) ≡ 0) → IsLargest blocks most
is_largest blocks tags lists last most heap few is filled above = record {
  bound = all_free (λ other. other ≤ most) blocks (λ block among free. by block among free (cases_eq (rank_of block.size) last) (cases_lt last (rank_of block.size)));
  found = is.found;
}
  where
    by : (block : Block) → Contains blocks block → IsFree block → (rank_of block.size ≡ last) ⊎ (rank_of block.size ≡ last → ⊥) → (last < rank_of block.size) ⊎ (rank_of block.size ≤ last) → block.size ≤ most
    by block among free (inl same) _ = is.bound block among free (slot_listed lists tags blocks block last few same heap.listed among free)
    by block among free (inr other) (inl higher) =
        let size = free_size blocks tags lists block heap among in
        let none = above (rank_of block.size) higher size.few in
        let filled = list_filled lists tags blocks block (rank_of block.size) size.few refl heap.listed among free in
        absurd (omega arith)
    by block among free (inr other) (inr lower) =
        let size = free_size blocks tags lists block heap among in
        let slot = get_or (list_of lists last) 0 0 in
        let first : Contains (list_of lists last) slot = (0, filled, get_or_default (list_of lists last) 0 slot 0 filled) in
        let one = block_listed lists tags blocks last slot few heap.listed first in
        let its = free_size blocks tags lists one.block heap one.among in
        let enough = is.bound one.block one.among one.free (subst (Contains (list_of lists last)) (sym one.here) first) in
        let rank = one.is in
        let below = enough_above block.size one.block.size its.some (let bound = size.limit in omega arith) (omega arith) in
        omega arith

-- no list has one, so no block is free
pub none_largest : (blocks : List Block) (tags : List ℕ) (lists : Lists) → IsHeap blocks tags lists → ((rank : ℕ) → rank < 1152 → length (list_of lists rank) ≡ 0) → IsLargest blocks 0
none_largest blocks tags lists heap none = record {
  bound = all_free (λ other. other ≤ 0) blocks (λ block among free.
      (let size = free_size blocks tags lists block heap among in
      let empty = none (rank_of block.size) size.few in
      let filled = list_filled lists tags blocks block (rank_of block.size) size.few refl heap.listed among free in
      absurd (omega arith)));
  found = λ more. absurd (omega arith);
}

-- a free block has each slot of a list, and the slot has its place
pub has_free : (blocks : List Block) (tags : List ℕ) (lists : Lists) (rank slot : ℕ) → IsHeap blocks tags lists → rank < 1152 → Contains (list_of lists rank) slot → HasFreeAt blocks tags lists slot
has_free blocks tags lists rank slot heap few among =
    let has = block_listed lists tags blocks rank slot few heap.listed among in
    record { block = has.block; among = has.among; free = has.free; here = has.here; place = ap (place_in lists) (sym has.here) ∙ heap.listed.places has.block has.among has.free }

-- The block that has a slot, as its place and size are told.
module _ (blocks : List Block) (tags : List ℕ) (lists : Lists) (slot place : ℕ) (has : HasFreeAt blocks tags lists slot) (here : place ≡ place_in lists slot) where
  begins : has.block.place ≡ place
  begins = sym (here ∙ has.place)

  pub block_at : HasBlock blocks place
  block_at = record { block = has.block; among = has.among; here = begins }

  pub found_at : (size : ℕ) → ((block : Block) → Contains blocks block → block.place ≡ place → size ≡ block.size) → Contains blocks (free_block place size)
  found_at size tells =
      subst (λ (b : Block). Contains blocks b) (free_is has.block has.free ∙ ap (λ p. free_block p has.block.size) begins ∙ ap (λ n. free_block place n) (sym (tells has.block has.among begins))) has.among

-- A walk over the slots of a rank, from the first one on.
pub record Walk (lists : ℕ → List ℕ) (rank : ℕ) (listed : Option ℕ) : Type 0 where
  pub before : List ℕ
  pub whole : lists rank ≡ before ++ left_from lists listed

abbrev pub walk_first : (lists : ℕ → List ℕ) (rank : ℕ) (next : Option ℕ) → left_from lists next ≡ lists rank → Walk lists rank next
walk_first lists rank next first = record { before = []; whole = sym first }

pub walk_listed : (lists : ℕ → List ℕ) (rank slot : ℕ) (listed : Option ℕ) → Walk lists rank listed → listed ≡ Some slot → Contains (lists rank) slot
walk_listed lists rank slot listed walk is = grind (arith, common_steps, in_middle walk.before (lists (node_of slot)) slot)

abbrev pub walk_on : (lists : ℕ → List ℕ) (rank slot : ℕ) (listed next : Option ℕ) → Walk lists rank listed → listed ≡ Some slot → left_from lists next ≡ lists (node_of slot) → Walk lists rank next
walk_on lists rank slot listed next walk is left = record {
  before = walk.before ++ slot ∷ [];
  whole = walk.whole ∙ ap (λ n. walk.before ++ left_from lists n) is ∙ sym (append_assoc walk.before (slot ∷ []) (lists (node_of slot))) ∙ ap (λ xs. (walk.before ++ slot ∷ []) ++ xs) (sym left);
}

pub walk_end : (lists : ℕ → List ℕ) (rank : ℕ) (next : Option ℕ) (walk : Walk lists rank next) → next ≡ None → walk.before ≡ lists rank
walk_end lists rank next walk end = sym (walk.whole ∙ ap (λ n. walk.before ++ left_from lists n) end ∙ append-nil walk.before)

-- a slot among some and one more
one_more : (xs : List ℕ) (x slot : ℕ) → Contains (xs ++ x ∷ []) slot → Contains xs slot ⊎ (slot ≡ x)
one_more xs x slot among = by (Contains-append_cases xs (x ∷ []) slot among)
  where
    by : Contains xs slot ⊎ Contains (x ∷ []) slot → Contains xs slot ⊎ (slot ≡ x)
    by (inl there) = inl there
    by (inr (zero, lt, is)) = inr (sym is)
    by (inr (suc k, lt, is)) = absurd (omega arith)

-- the larger of two numbers, as the code has it
pub max_is : (a b : ℕ) → ord_max nat_cmp a b ≡ max a b
max_is a b = grind arith

-- One slot more of a list was looked at, and its block's size.
module _ (blocks : List Block) (tags : List ℕ) (lists : Lists) (list : List ℕ) (slot place size : ℕ) (heap : IsHeap blocks tags lists) (here : place ≡ place_in lists slot)
    (tells : (block : Block) → Contains blocks block → block.place ≡ place → size ≡ block.size) where
  -- the free block that has the slot has this size
  its_size : (block : Block) → Contains blocks block → IsFree block → slot_of tags block ≡ slot → size ≡ block.size
  its_size block among free has = tells block among (sym (here ∙ ap (place_in lists) (sym has) ∙ heap.listed.places block among free))

  pub short_more : (need : ℕ) → size < need → AreShort blocks tags list need → AreShort blocks tags (list ++ slot ∷ []) need
  short_more need less before block among free listed = by (one_more list slot (slot_of tags block) listed)
    where
      by : Contains list (slot_of tags block) ⊎ (slot_of tags block ≡ slot) → block.size < need
      by (inl there) = before block among free there
      by (inr has) = (let is = its_size block among free has in omega arith)

  pub most_more : (most : ℕ) → HasFreeAt blocks tags lists slot → IsMost blocks tags list most → IsMost blocks tags (list ++ slot ∷ []) (max most size)
  most_more most has is = record {
    bound = λ block among free listed. bound block among free (one_more list slot (slot_of tags block) listed);
    found = λ some. found some (cases_lt most size);
  }
    where
      bound : (block : Block) → Contains blocks block → IsFree block → Contains list (slot_of tags block) ⊎ (slot_of tags block ≡ slot) → block.size ≤ max most size
      bound block among free (inl there) = (let so_far = is.bound block among free there in omega arith)
      bound block among free (inr has) = (let same = its_size block among free has in omega arith)

      found : 0 < max most size → (most < size) ⊎ (size ≤ most) → Contains (free_sizes blocks) (max most size)
      found some (inl more) =
          let there = size_among blocks (free_block place size) (found_at blocks tags lists slot place has here size tells) refl in
          let same : size ≡ max most size = omega arith in
          subst (λ n. Contains (free_sizes blocks) n) same there
      found some (inr less) =
          let same : most ≡ max most size = omega arith in
          subst (λ n. Contains (free_sizes blocks) n) same (is.found (omega arith))

pub lacks : (blocks : List Block) (tags : List ℕ) (lists : Lists) (need : ℕ) → IsHeap blocks tags lists → NoneFits blocks need → MayLack blocks need
lacks blocks tags lists need heap none = MayLack-none_fits blocks need heap.list.merged none
