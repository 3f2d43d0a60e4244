-- What a change of the blocks and of their lists keeps.
use Rattle.std.proofs.Common.{◌≡◌, ◌≢◌, ℕ, ◌+◌, ◌-◌, ◌<◌, ◌≤◌, Option, Some, None, List, [], ◌∷◌, ◌++◌, length, refl, sym, ap, ◌∙◌, subst, arith, append_assoc}
use Rattle.std.specs.List.{Contains, sum_by}
use Rattle.std.specs.Prelude.{IfSome}
use Rattle.block_heap.specs.Ranks.{rank_of}
use Rattle.block_heap.proofs.Ranking.{few_ranks}
use Rattle.block_heap.specs.declared.block.TheConstants.{MOST_WORDS}
use Rattle.block_heap.specs.declared.block.Block.{Block}
use Rattle.block_heap.specs.Blocks.{free_block, used_block, IsFree, Fills, IsBlockList, words_of}
use Rattle.block_heap.specs.Changes.{rest_of, IsTaken}
use Rattle.block_heap.specs.Lists.{Lists, list_of, place_in, count_of, AreListed, IsListed, IsWithout}
use Rattle.block_heap.specs.Slots.{most_slots}
use Rattle.block_heap.specs.Tags.{slot_of, Rewrites}
use Rattle.block_heap.specs.Inside.{IsHeap, IsListable, blocks_in}
use Rattle.block_heap.proofs.Counting.{few_frees}
use Rattle.block_heap.proofs.Order.{words_of-cons}
use Rattle.block_heap.proofs.Places.{free_is, parted, in_middle, free_within}
use Rattle.block_heap.proofs.TagLaws.{slots_stay}
use Rattle.block_heap.proofs.Taking.{IsBlockList-taken, words_of-list, rest_is}
use Rattle.block_heap.proofs.Listing.{listed_added, listed_removed, listed_beside, listed_slots, may_lie, slot_listed, frees_beside}

pub heap_with : (blocks now : List Block) (tags told : List ℕ) (lists new : Lists) → IsHeap blocks tags lists → IsBlockList (words_of blocks) now → AreListed new told now → new.0 ≡ lists.0 → IsHeap now told new
heap_with blocks now tags told lists new heap list listed same =
    let all = words_of-list (words_of blocks) now list in
    record { list = subst (λ n. IsBlockList n now) (sym all) list; listed = listed; same = same ∙ heap.same ∙ sym all; limit = subst (λ n. n ≤ MOST_WORDS) (sym all) heap.limit }

-- A free block that may be added to the list of its rank.
pub record IsAddable (words : ℕ) (lists : Lists) (block : Block) : Type 0 where
  pub some : 1 ≤ block.size
  pub within : block.place + block.size ≤ words
  pub limit : block.place + block.size ≤ MOST_WORDS
  pub room : length (list_of lists (rank_of block.size)) < words
  pub spare : count_of lists < most_slots words

pub addable : (words : ℕ) (lists : Lists) (tags : List ℕ) (now before after : List Block) (block : Block) → words ≤ MOST_WORDS → IsBlockList words now → now ≡ before ++ block ∷ after → IsFree block → AreListed lists tags (before ++ after)
    → IsAddable words lists block
addable words lists tags now before after block limit list is free listed =
    let own = subst (IsBlockList words) is list in
    let lies = free_within words (before ++ block ∷ after) block own.fills (in_middle before after block) in
    let some = lies.0 in
    let within = lies.1 in
    record {
      some = omega arith;
      within = within;
      limit = omega arith;
      room = may_lie lists tags before after block words (few_ranks block.size) free own.fills listed;
      spare = omega (arith, few_frees words (before ++ block ∷ after) own, frees_beside before after block free, listed.count);
    }

-- slots of the blocks beside one whose words were written
pub beside_stay : (words : ℕ) (tags told : List ℕ) (now before after : List Block) (block : Block) → IsBlockList words now → now ≡ before ++ block ∷ after → Rewrites tags told block.place (block.place + block.size)
    → (other : Block) → Contains (before ++ after) other → slot_of told other ≡ slot_of tags other
beside_stay words tags told now before after block list is writes =
    let fills = subst (λ xs. Fills 0 xs words) is list.fills in
    let some = (free_within words (before ++ block ∷ after) block fills (in_middle before after block)).0 in
    slots_stay words tags told before (block ∷ []) after block.place (block.place + block.size) (omega arith) fills (refl, some, refl) writes

-- A free block is taken: it has left its list, and its first words are used.
pub record Taken (blocks now : List Block) (mid : Lists) (told : List ℕ) (block : Block) (need : ℕ) : Type 0 where
  pub before : List Block
  pub after : List Block
  pub was : blocks ≡ before ++ block ∷ after
  pub now_is : now ≡ before ++ used_block block.place need ∷ (rest_of (block.place + need) (block.size - need) ++ after)
  pub listed : AreListed mid told (before ++ after)
  pub taken : IsTaken blocks now block.place need
  pub list : IsBlockList (words_of blocks) now

pub taken_block : (blocks now : List Block) (tags told : List ℕ) (lists mid : Lists) (block : Block) (need : ℕ) → IsHeap blocks tags lists → 1 ≤ need → need ≤ block.size → Contains blocks block → IsFree block
    → (rank : ℕ) → rank ≡ rank_of block.size → IsWithout (list_of lists rank) (list_of mid rank) (slot_of tags block) → ((other : ℕ) → other < 1152 → other ≢ rank → list_of mid other ≡ list_of lists other)
    → ((slot : ℕ) → place_in mid slot ≡ place_in lists slot) → count_of mid + 1 ≡ count_of lists
    → ((before after : List Block) → blocks ≡ before ++ block ∷ after → now ≡ before ++ used_block block.place need ∷ (rest_of (block.place + need) (block.size - need) ++ after))
    → Rewrites tags told block.place (block.place + block.size) → Taken blocks now mid told block need
taken_block blocks now tags told lists mid block need heap some enough among free rank is removed others stay count cut writes =
    let parts = parted blocks block among in
    let taken : IsTaken blocks now block.place need =
    record { before = parts.0; after = parts.1; size = block.size; enough = enough; was = parts.2 ∙ ap (λ b. parts.0 ++ b ∷ parts.1) (free_is block free); now = cut parts.0 parts.1 parts.2 } in
    record {
      before = parts.0;
      after = parts.1;
      was = parts.2;
      now_is = cut parts.0 parts.1 parts.2;
      listed = listed_slots mid tags told (parts.0 ++ parts.1) (beside_stay (words_of blocks) tags told blocks parts.0 parts.1 block heap.list parts.2 writes)
          (listed_removed lists mid tags parts.0 parts.1 block free (subst (λ c. IsWithout (list_of lists c) (list_of mid c) (slot_of tags block)) is removed) (λ other few ne. others other few (λ e. ne (e ∙ is))) stay count
          (subst (AreListed lists tags) parts.2 heap.listed));
      taken = taken;
      list = IsBlockList-taken (words_of blocks) blocks now block.place need (omega arith) heap.list taken;
    }

-- all of its words are used
pub taken_whole : (blocks now : List Block) (tags told : List ℕ) (lists mid : Lists) (block : Block) (need : ℕ) → IsHeap blocks tags lists → block.size ≤ need → Taken blocks now mid told block need → mid.0 ≡ lists.0 → IsHeap now told mid
taken_whole blocks now tags told lists mid block need heap all taken same =
    let none : block.size - need ≡ 0 = omega arith in
    let is : now ≡ taken.before ++ used_block block.place need ∷ taken.after = taken.now_is ∙ ap (λ n. taken.before ++ used_block block.place need ∷ (rest_of (block.place + need) n ++ taken.after)) none in
    heap_with blocks now tags told lists mid heap taken.list
    (subst (AreListed mid told) (sym is) (listed_beside mid told taken.before taken.after (used_block block.place need) refl taken.listed)) same

-- the rest of it is free
pub record IsRest (now : List Block) (mid : Lists) (told : List ℕ) (rest : Block) : Type 0 where
  pub before : List Block
  pub after : List Block
  pub is : now ≡ before ++ rest ∷ after
  pub listed : AreListed mid told (before ++ after)

pub taken_part : (blocks now : List Block) (mid : Lists) (told : List ℕ) (block : Block) (need : ℕ) → need < block.size → Taken blocks now mid told block need → IsRest now mid told (free_block (block.place + need) (block.size - need))
taken_part blocks now mid told block need part taken =
    let used = used_block block.place need in
    let rest = free_block (block.place + need) (block.size - need) in
    record {
      before = taken.before ++ used ∷ [];
      after = taken.after;
      is = taken.now_is ∙ ap (λ xs. taken.before ++ used ∷ (xs ++ taken.after)) (rest_is (block.place + need) (block.size - need) (omega arith)) ∙ sym (append_assoc taken.before (used ∷ []) (rest ∷ taken.after));
      listed = subst (AreListed mid told) (sym (append_assoc taken.before (used ∷ []) taken.after)) (listed_beside mid told taken.before taken.after used refl taken.listed);
    }

-- A free block's slot is added, and all free blocks are listed.
pub heap_added : (blocks now : List Block) (tags told put : List ℕ) (lists mid new : Lists) (before after : List Block) (block : Block) → IsHeap blocks tags lists → IsBlockList (words_of blocks) now → now ≡ before ++ block ∷ after → IsFree block
    → AreListed mid told (before ++ after) → (rank slot : ℕ) → rank ≡ rank_of block.size → list_of new rank ≡ list_of mid rank ++ slot ∷ [] → ((other : ℕ) → other < 1152 → other ≢ rank → list_of new other ≡ list_of mid other)
    → place_in new slot ≡ block.place → ((other : ℕ) → IsListed (list_of mid) other → place_in new other ≡ place_in mid other) → count_of new ≡ count_of mid + 1 → slot_of put block ≡ slot
    → Rewrites told put block.place (block.place + block.size) → new.0 ≡ lists.0 → IsHeap now put new
heap_added blocks now tags told put lists mid new before after block heap list is free listed rank slot of added others here stay count own writes same =
    heap_with blocks now tags put lists new heap list
    (subst (AreListed new put) (sym is)
    (listed_added mid new told put before after block free
    (subst (λ s. list_of new (rank_of block.size) ≡ list_of mid (rank_of block.size) ++ s ∷ []) (sym own) (subst (λ c. list_of new c ≡ list_of mid c ++ slot ∷ []) of added)) (λ other few ne. others other few (λ e. ne (e ∙ of)))
    (beside_stay (words_of blocks) told put now before after block list is writes) (ap (place_in new) own ∙ here) stay count listed)) same

-- a neighbour leaves its list
pub neighbour_left : (lists new : Lists) (tags : List ℕ) (neighbour : Option Block) (block : Block) → neighbour ≡ Some block → IsListable lists tags neighbour → (rank : ℕ) → rank ≡ rank_of block.size
    → IsWithout (list_of lists rank) (list_of new rank) (slot_of tags block) → ((other : ℕ) → other < 1152 → other ≢ rank → list_of new other ≡ list_of lists other)
    → ((slot : ℕ) → place_in new slot ≡ place_in lists slot) → count_of new + 1 ≡ count_of lists → (before after : List Block) → AreListed lists tags (before ++ (blocks_in neighbour ++ after)) → AreListed new tags (before ++ after)
neighbour_left lists new tags neighbour block some listable rank is removed others stay count before after listed =
    listed_removed lists new tags before after block (subst (IsListable lists tags) some listable).0 (subst (λ c. IsWithout (list_of lists c) (list_of new c) (slot_of tags block)) is removed)
    (λ other few ne. others other few (λ e. ne (e ∙ is))) stay count (subst (λ n. AreListed lists tags (before ++ (blocks_in n ++ after))) some listed)

-- a free neighbour can leave its list
pub listable : (blocks : List Block) (tags : List ℕ) (lists mid : Lists) (neighbour : Option Block) (front back before after : List Block) → IsHeap blocks tags lists → blocks ≡ front ++ (blocks_in neighbour ++ back)
    → AreListed mid tags (before ++ (blocks_in neighbour ++ after)) → IfSome neighbour IsFree → IsListable mid tags neighbour
listable blocks tags lists mid None front back before after heap is listed free = tt
listable blocks tags lists mid (Some block) front back before after heap is listed free =
    let lies = free_within (words_of blocks) (front ++ block ∷ back) block (subst (λ xs. Fills 0 xs (words_of blocks)) is heap.list.fills) (in_middle front back block) in
    let some = lies.0 in
    let within = lies.1 in
    let limit = heap.limit in (
      free,
      omega arith,
      omega arith,
      slot_listed mid tags (before ++ block ∷ after) block (rank_of block.size) (few_ranks block.size) refl listed (in_middle before after block) free,
      omega (arith, listed.count, frees_beside before after block free),
    )

-- one free block of all words, which is listed
pub heap_new : (words : ℕ) (blocks : List Block) (told : List ℕ) (lists new : Lists) → blocks ≡ free_block 0 words ∷ [] → 1 ≤ words → words ≤ MOST_WORDS → new.0 ≡ words → ((rank : ℕ) → rank < 1152 → list_of lists rank ≡ [])
    → count_of lists ≡ 0 → (rank slot : ℕ) → rank ≡ rank_of words → list_of new rank ≡ list_of lists rank ++ slot ∷ [] → ((other : ℕ) → other < 1152 → other ≢ rank → list_of new other ≡ list_of lists other)
    → place_in new slot ≡ 0 → ((other : ℕ) → IsListed (list_of lists) other → place_in new other ≡ place_in lists other) → count_of new ≡ count_of lists + 1 → slot_of told (free_block 0 words) ≡ slot → IsHeap blocks told new
heap_new words blocks told lists new is some limit same none zero_count rank slot of added others here stay count own =
    let block = free_block 0 words in
    let all : words_of (block ∷ []) ≡ words = omega (arith, words_of-cons block []) in
    subst (λ (bs : List Block). IsHeap bs told new) (sym is) (record {
      list = record { fills = (refl, omega arith, omega (arith, all)); merged = (λ both. both.1, tt) };
      listed =
          listed_added lists new told told [] [] block refl
          (subst (λ s. list_of new (rank_of words) ≡ list_of lists (rank_of words) ++ s ∷ []) (sym own) (subst (λ c. list_of new c ≡ list_of lists c ++ slot ∷ []) of added)) (λ other few ne. others other few (λ e. ne (e ∙ of)))
          (λ b among. refl) (ap (place_in new) own ∙ here) stay count
          (record { sums = λ c few weight. ap (sum_by weight) (none c few); places = λ b among free. absurd (let lt = among.1 in omega arith); count = zero_count });
      same = same ∙ sym all;
      limit = omega (arith, all);
    })
