-- What giving a block back keeps.
use Rattle.std.proofs.Common.{◌≡◌, ℕ, zero, suc, ◌+◌, ◌-◌, ◌<◌, ◌≤◌, Bool, true, false, Option, Some, None, List, [], ◌∷◌, ◌++◌, refl, sym, ap, ◌∙◌, subst, arith, append_assoc}
use Rattle.std.specs.Prelude.{IfSome}
use Rattle.std.specs.List.{Contains}
use Rattle.std.proofs.lemmas.List.{append-nil}
use Rattle.std.proofs.lemmas.Grind.{common_steps}
use Rattle.block_heap.specs.declared.block.Block.{Block}
use Rattle.block_heap.specs.Blocks.{free_block, used_block, IsFree, Fills, IsCoalesced, IsBlockList, HasUsed, used_blocks, words_of}
use Rattle.block_heap.specs.Changes.{merged, IsGiven}
use Rattle.block_heap.specs.Inside.{blocks_in, words_in}
use Rattle.block_heap.specs.Tags.{HasBlock, EndsFree, IsLastFree, IsFirstFree}
use Rattle.block_heap.proofs.Order.{words_of-append, words_of-cons, front_fills, back_fills, back_merged, fills_instead, merged_instead, from-le-end}
use Rattle.block_heap.proofs.Merging.{joined_apart, joined_begins, merged_fills, merged_merged, merged_same, merged_behind}
use Rattle.block_heap.proofs.Counting.{used_more, used_same}
use Rattle.block_heap.proofs.Places.{parted, free_within}

-- a list stays a block list where a block is given back
pub IsBlockList-given : (words : ℕ) (old new : List Block) (place : ℕ) → IsBlockList words old → IsGiven old new place → IsBlockList words new
IsBlockList-given words old new place list given =
    let freed = given.before ++ free_block place given.size ∷ given.after in
    let fills = fills_instead 0 words given.before (used_block place given.size ∷ given.after) (free_block place given.size ∷ given.after)
    (subst (λ xs. Fills 0 xs words) given.was list.fills) (λ at h. h) in
    record {
      fills = subst (λ xs. Fills 0 xs words) (sym given.now) (merged_fills 0 words freed fills);
      merged = subst IsCoalesced (sym given.now) (merged_merged freed);
    }

-- the blocks before a place without the free one that ends there
abbrev pub front_of : (before : List Block) (left : Option Block) → IsLastFree before left → (front : List Block) × (before ≡ front ++ blocks_in left)
front_of before None none = (before, sym (append-nil before))
front_of before (Some last) is = (is.0, is.1)

-- the blocks behind a place without the free one that begins there
abbrev pub back_of : (after : List Block) (right : Option Block) → IsFirstFree after right → (back : List Block) × (after ≡ blocks_in right ++ back)
back_of after None none = (after, refl)
back_of after (Some first) is = (is.0, is.1)

-- a free block as one with the free one behind it
right_merged : (place size : ℕ) (after : List Block) (right : Option Block) → IsCoalesced after → (is : IsFirstFree after right) → merged (free_block place size ∷ after) ≡ free_block place (size + words_in right) ∷ (back_of after right is).0
right_merged place size after None h none = grind (arith, common_steps, merged_same after h, joined_apart (free_block place size) after)
right_merged place size after (Some first) h is = grind (arith, common_steps, merged_same after h)

-- a list that ends in a used block
closed : (xs ys zs : List Block) → IsCoalesced (xs ++ zs) → (EndsFree xs → ⊥) → IsCoalesced ys → IsCoalesced (xs ++ ys)
closed [] ys zs h ends is = is
closed (x ∷ []) ys zs h ends is = (λ both. ends both.0, is)
closed (x ∷ y ∷ xs) ys zs h ends is = (h.0, closed (y ∷ xs) ys zs h.1 ends is)

-- a freed block as one with its free neighbours
all_merged : (place size : ℕ) (before after : List Block) (left right : Option Block) → IsCoalesced (before ++ used_block place size ∷ after) → (last : IsLastFree before left) → (first : IsFirstFree after right) → place ≡ words_of (front_of before left last).0 + words_in left
    → IfSome left (λ block. block.place ≡ words_of (front_of before left last).0)
    → merged (before ++ free_block place size ∷ after) ≡ (front_of before left last).0 ++ free_block (place - words_in left) (words_in left + size + words_in right) ∷ (back_of after right first).0
all_merged place size before after None right h last first here lies =
    let alone = right_merged place size after right (back_merged before (used_block place size ∷ after) h).1 first in
    let same : size + words_in right ≡ 0 + size + words_in right = omega arith in
    let there : place ≡ place - 0 = omega arith in
    merged_behind before (free_block place size ∷ after) (closed before (merged (free_block place size ∷ after)) (used_block place size ∷ after) h last (merged_merged (free_block place size ∷ after)))
    ∙ ap (λ ys. before ++ ys) (alone ∙ ap (λ n. free_block place n ∷ (back_of after right first).0) same ∙ ap (λ p. free_block p (0 + size + words_in right) ∷ (back_of after right first).0) there)
all_merged place size before after (Some block) right h last first here lies =
    let front = last.0 in
    let back = (back_of after right first).0 in
    let alone = right_merged place size after right (back_merged before (used_block place size ∷ after) h).1 first in
    let rest = block ∷ free_block place size ∷ after in
    let old : before ++ used_block place size ∷ after ≡ front ++ block ∷ used_block place size ∷ after =
    ap (λ xs. xs ++ used_block place size ∷ after) last.1 ∙ append_assoc front (block ∷ []) (used_block place size ∷ after) in
    let freed : before ++ free_block place size ∷ after ≡ front ++ rest =
    ap (λ xs. xs ++ free_block place size ∷ after) last.1 ∙ append_assoc front (block ∷ []) (free_block place size ∷ after) in
    let apart = merged_instead front (block ∷ used_block place size ∷ after) (merged rest) (subst IsCoalesced old h) (joined_begins block (merged (free_block place size ∷ after))) (merged_merged rest) in
    let there : block.place ≡ place - block.size = omega arith in
    let same : block.size + (size + words_in right) ≡ block.size + size + words_in right = omega arith in
    grind (arith, common_steps, freed, merged_behind front rest apart)

words_of-in : (neighbour : Option Block) → words_of (blocks_in neighbour) ≡ words_in neighbour
words_of-in None = refl
words_of-in (Some block) = omega (arith, words_of-cons block [])

-- A used block and its free neighbours, and the one free block that they become.
pub record IsFreed (words : ℕ) (blocks : List Block) (place size : ℕ) (left right : Option Block) : Type 0 where
  pub front : List Block
  pub back : List Block
  pub left_free : IfSome left IsFree
  pub right_free : IfSome right IsFree
  pub was : blocks ≡ front ++ (blocks_in left ++ (used_block place size ∷ (blocks_in right ++ back)))
  pub given : (new : List Block) → new ≡ front ++ free_block (place - words_in left) (words_in left + size + words_in right) ∷ back → IsGiven blocks new place
  pub starts : place - words_in left ≡ words_of front
  pub enough : words_in left ≤ place

pub freed : (words : ℕ) (blocks before after : List Block) (place size : ℕ) (left right : Option Block) → IsBlockList words blocks → blocks ≡ before ++ used_block place size ∷ after
    → IsLastFree before left → IsFirstFree after right → IsFreed words blocks place size left right
freed words blocks before after place size left right list is last first =
    let own = subst (IsBlockList words) is list in
    let front = front_of before left last in
    let back = back_of after right first in
    let at : place ≡ words_of before = (let e = (back_fills 0 words before (used_block place size ∷ after) own.fills).0 in omega arith) in
    let here : place ≡ words_of front.0 + words_in left = omega (arith, at, ap words_of front.1, words_of-append front.0 (blocks_in left), words_of-in left) in
    record {
      front = front.0;
      back = back.0;
      left_free = left_by left last;
      right_free = right_by right first;
      was = is ∙ ap (λ xs. xs ++ used_block place size ∷ after) front.1 ∙ append_assoc front.0 (blocks_in left) (used_block place size ∷ after) ∙ ap (λ ys. front.0 ++ (blocks_in left ++ (used_block place size ∷ ys))) back.1;
      given = λ new now. record { before = before; after = after; size = size; was = is; now = now ∙ sym (all_merged place size before after left right own.merged last first here (lies left last own.fills)) };
      starts = omega arith;
      enough = omega arith;
    }
  where
    left_by : (left : Option Block) → IsLastFree before left → IfSome left IsFree
    left_by None is = tt
    left_by (Some block) is = is.2

    right_by : (right : Option Block) → IsFirstFree after right → IfSome right IsFree
    right_by None is = tt
    right_by (Some block) is = is.2

    lies : (left : Option Block) (last : IsLastFree before left) → Fills 0 (before ++ used_block place size ∷ after) words → IfSome left (λ block. block.place ≡ words_of (front_of before left last).0)
    lies None last fills = tt
    lies (Some block) last fills =
        let front = subst (λ xs. Fills 0 xs (0 + words_of before)) last.1 (front_fills 0 words before (used_block place size ∷ after) fills) in
        let e = (back_fills 0 (0 + words_of before) last.0 (block ∷ []) front).0 in
        omega arith

-- a used block is among all
used_among : (blocks : List Block) (block : Block) → Contains (used_blocks blocks) block → Contains blocks block
used_among [] block among = among
used_among (b ∷ blocks) block among = by (used_among blocks block) b.used refl
  where
    later : Contains blocks block → Contains (b ∷ blocks) block
    later there = (suc there.0, (let lt = there.1 in omega arith), there.2)

    split : (Contains (used_blocks blocks) block → Contains blocks block) → Contains (b ∷ used_blocks blocks) block → Contains (b ∷ blocks) block
    split rest (zero, lt, is) = (0, omega arith, is)
    split rest (suc k, lt, is) = later (rest (k, omega arith, is))

    by : (Contains (used_blocks blocks) block → Contains blocks block) → (u : Bool) → b.used ≡ u → Contains (b ∷ blocks) block
    by rest true used = split rest (subst (λ (bs : List Block). Contains bs block) (used_more b blocks used) among)
    by rest false free = later (rest (subst (λ (bs : List Block). Contains bs block) (used_same b blocks free) among))

-- A used block, the blocks before and behind it, and where they end and begin.
pub record UsedAt (words : ℕ) (blocks : List Block) (place size : ℕ) : Type 0 where
  pub before : List Block
  pub after : List Block
  pub among : Contains blocks (used_block place size)
  pub is : blocks ≡ before ++ used_block place size ∷ after
  pub ends : Fills 0 before place
  pub is_next : blocks ≡ (before ++ used_block place size ∷ []) ++ after
  pub next : Fills 0 (before ++ used_block place size ∷ []) (place + size)
  pub within : place + size ≤ words
  pub some : 0 < size

pub used_at : (words : ℕ) (blocks : List Block) (place : ℕ) → IsBlockList words blocks → (has : HasUsed blocks place) → UsedAt words blocks place has.size
used_at words blocks place list has =
    let block = used_block place has.size in
    let among = used_among blocks block has.among in
    let parts = parted blocks block among in
    let is_next = parts.2 ∙ sym (append_assoc parts.0 (block ∷ []) parts.1) in
    let fills = subst (λ xs. Fills 0 xs words) parts.2 list.fills in
    let here = back_fills 0 words parts.0 (block ∷ parts.1) fills in
    let at : 0 + words_of parts.0 ≡ place = sym here.0 in
    let le = from-le-end ((0 + words_of parts.0) + has.size) words parts.1 here.2 in
    let ends : 0 + words_of (parts.0 ++ block ∷ []) ≡ place + has.size = omega (arith, words_of-append parts.0 (block ∷ []), words_of-cons block []) in
    record {
      before = parts.0;
      after = parts.1;
      among = among;
      is = parts.2;
      ends = subst (λ n. Fills 0 parts.0 n) at (front_fills 0 words parts.0 (block ∷ parts.1) fills);
      is_next = is_next;
      next = subst (λ n. Fills 0 (parts.0 ++ block ∷ []) n) ends (front_fills 0 words (parts.0 ++ block ∷ []) parts.1 (subst (λ xs. Fills 0 xs words) is_next list.fills));
      within = omega arith;
      some = here.1;
    }

-- the free block behind, and all before it
pub before_right : (words : ℕ) (blocks : List Block) (place size : ℕ) (left right : Option Block) → (freed : IsFreed words blocks place size left right) → blocks ≡ (freed.front ++ (blocks_in left ++ used_block place size ∷ [])) ++ (blocks_in right ++ freed.back)
before_right words blocks place size left right freed = grind (arith, common_steps)

-- The one free block, and the blocks that lie where it is to lie.
pub record IsJoined (words : ℕ) (blocks : List Block) (place size : ℕ) (left right : Option Block) (front back : List Block) (block : Block) : Type 0 where
  pub whole : blocks ≡ front ++ ((blocks_in left ++ used_block place size ∷ blocks_in right) ++ back)
  pub fills : Fills block.place (blocks_in left ++ used_block place size ∷ blocks_in right) (block.place + block.size)
  pub some : 0 < block.size
  pub within : block.place + block.size ≤ words

pub joined_block : (words : ℕ) (blocks : List Block) (place size : ℕ) (left right : Option Block) (block : Block) → IsBlockList words blocks → (freed : IsFreed words blocks place size left right) → 0 < size
    → block ≡ free_block (place - words_in left) (words_in left + size + words_in right) → IsJoined words blocks place size left right freed.front freed.back block
joined_block words blocks place size left right block list freed some is =
    let used = used_block place size in
    let l = blocks_in left in
    let r = blocks_in right in
    let middle = l ++ used ∷ r in
    let whole : blocks ≡ freed.front ++ (middle ++ freed.back) = freed.was ∙ ap (λ ys. freed.front ++ ys) (sym (append_assoc l (used ∷ r) freed.back)) in
    let own = back_fills 0 words freed.front (middle ++ freed.back) (subst (λ xs. Fills 0 xs words) whole list.fills) in
    let own_middle = front_fills (0 + words_of freed.front) words middle freed.back own in
    let rest = back_fills (0 + words_of freed.front) words middle freed.back own in
    let le = from-le-end ((0 + words_of freed.front) + words_of middle) words freed.back rest in
    let many : words_of middle ≡ words_in left + size + words_in right = omega (arith, words_of-append l (used ∷ r), words_of-cons used r, words_of-in left, words_of-in right) in
    let at : 0 + words_of freed.front ≡ block.place = (let start = freed.starts in let there = ap (λ (b : Block). b.place) is in omega arith) in
    let long : words_of middle ≡ block.size = many ∙ sym (ap (λ (b : Block). b.size) is) in
    record {
      whole = whole;
      fills = subst (λ n. Fills block.place middle (block.place + n)) long (subst (λ n. Fills n middle (n + words_of middle)) at own_middle);
      some = omega arith;
      within = omega arith;
    }

-- a used block begins where one is to be given back
pub has_block : (blocks now : List Block) (place : ℕ) → IsBlockList (words_of blocks) blocks → blocks ≡ now → HasUsed now place → HasBlock blocks place
has_block blocks now place list view has =
    let own = subst (λ (bs : List Block). HasUsed bs place) (sym view) has in
    let used = used_at (words_of blocks) blocks place list own in
    record { block = used_block place own.size; among = used.among; here = refl }

-- the used block, once its size was read
pub read_at : (blocks now : List Block) (place size : ℕ) → IsBlockList (words_of blocks) blocks → blocks ≡ now → HasUsed now place → ((block : Block) → Contains blocks block → block.place ≡ place → size ≡ block.size) → UsedAt (words_of blocks) blocks place size
read_at blocks now place size list view has tells =
    let own = subst (λ (bs : List Block). HasUsed bs place) (sym view) has in
    let used = used_at (words_of blocks) blocks place list own in
    subst (UsedAt (words_of blocks) blocks place) (sym (tells (used_block place own.size) used.among refl)) used

-- the one free block
abbrev pub one_of : (place size : ℕ) (left right : Option Block) → Block
one_of place size left right = free_block (place - words_in left) (words_in left + size + words_in right)

pub one_is : (place before size after : ℕ) (left right : Option Block) (block : Block) → block ≡ free_block (place - before) (before + size + after) → before ≡ words_in left → after ≡ words_in right → block ≡ one_of place size left right
one_is place before size after left right block is b a = grind (arith, common_steps)

-- The used block's free neighbours were found.
pub record IsFound (blocks : List Block) (place size : ℕ) (left right : Option Block) : Type 0 where
  pub parts : IsFreed (words_of blocks) blocks place size left right
  pub joined : IsJoined (words_of blocks) blocks place size left right parts.front parts.back (one_of place size left right)

pub found : (blocks : List Block) (place size : ℕ) (left right : Option Block) → IsBlockList (words_of blocks) blocks → UsedAt (words_of blocks) blocks place size
    → ((before after : List Block) → blocks ≡ before ++ after → Fills 0 before place → IsLastFree before left)
    → ((before after : List Block) → blocks ≡ before ++ after → Fills 0 before (place + size) → IsFirstFree after right) → IsFound blocks place size left right
found blocks place size left right list used last first =
    let block = used_block place size in
    let parts = freed (words_of blocks) blocks used.before used.after place size left right list used.is
    (last used.before (block ∷ used.after) used.is used.ends) (first (used.before ++ block ∷ []) used.after used.is_next used.next) in
    record {
      parts = parts;
      joined = joined_block (words_of blocks) blocks place size left right (one_of place size left right) list parts (free_within (words_of blocks) blocks block list.fills used.among).0 refl;
    }
