-- Tags that tell blocks.
use Rattle.std.proofs.Common.{◌≡◌, ◌≢◌, ℕ, zero, suc, ◌+◌, ◌-◌, ◌*◌, ◌/◌, ◌%◌, ◌<◌, ◌≤◌, ◌⊎◌, inl, inr, Bool, true, false, List, [], ◌∷◌, ◌++◌, length, refl, sym, ap, ◌∙◌, subst, arith}
use Rattle.std.specs.List.{Contains}
use Rattle.std.specs.Prelude.{nat_lt}
use Rattle.std.proofs.lemmas.Bool.{le-ltb, lt-ltb, eq-eqb, ne_eqb, cases_eq, cases_lt}
use Rattle.std.proofs.lemmas.List.Elements.{Contains-append_cases}
use Rattle.std.proofs.lemmas.Grind.{common_steps}
use Rattle.block_heap.specs.declared.block.Block.{Block}
use Rattle.block_heap.specs.Blocks.{free_block, used_block, Fills, IsFree, BeginsFree, words_of}
use Rattle.block_heap.specs.Changes.{rest_of}
use Rattle.block_heap.specs.Tags.{tag_of, size_in, tag_at, slot_of, IsTagged, AreTagged, blocks_from, blocks_of, TellBlocks, OthersStay, Rewrites, EndsFree}
use Rattle.block_heap.proofs.Order.{words_of-fills, front_fills, back_fills, fills-append, from-le-end}
use Rattle.block_heap.proofs.Places.{last_of, parted, lies_from}

-- what a tag tells
abbrev pub told_by : ℕ → ℕ × Bool
told_by tag = (size_in tag, nat_lt (tag % 4) 2)

block_is : (tags : List ℕ) (from : ℕ) (block : Block) → block.place ≡ from → tag_at tags block.place ≡ (block.size, block.used) → record { place = from; size = size_in (tag_of tags from); used = nat_lt (tag_of tags from % 4) 2 } ≡ block
block_is tags from block here tag =
    let told = subst (λ n. tag_at tags n ≡ (block.size, block.used)) here tag in
    ap (λ (t : ℕ × Bool). record { place = from; size = t.0; used = t.1 }) told ∙ ap (λ n. record { place = n; size = block.size; used = block.used }) (sym here)

-- the blocks are those that their tags tell
pub told : (words : ℕ) (tags : List ℕ) (most from : ℕ) (blocks : List Block) → Fills from blocks words → AreTagged words tags blocks → words ≤ from + most → blocks_from words tags most from ≡ blocks
unfolding blocks_from
told words tags zero from [] fills tagged enough = refl
told words tags (suc most) from [] fills tagged enough = rw (le-ltb from words (omega arith)) refl
told words tags zero from (block ∷ blocks) fills tagged enough =
    absurd (let some = fills.1 in let end = from-le-end (from + block.size) words blocks fills.2 in omega arith)
told words tags (suc most) from (block ∷ blocks) fills tagged enough =
    let some = fills.1 in
    let end = from-le-end (from + block.size) words blocks fills.2 in
    let is = block_is tags from block fills.0 tagged.0.first in
    let rest = told words tags most (from + block.size) blocks fills.2 tagged.1 (omega arith) in
    let size = ap (λ (b : Block). b.size) is in
    rw (lt-ltb from words (omega arith)) (ap (λ b. b ∷ blocks_from words tags most (from + size_in (tag_of tags from))) is
    ∙ ap (λ n. block ∷ blocks_from words tags most (from + n)) size ∙ ap (λ bs. block ∷ bs) rest)

pub kept_one : (words : ℕ) (tags new : List ℕ) (block : Block) → 0 < block.size → ((place : ℕ) → block.place ≤ place → place < block.place + block.size → tag_of new place ≡ tag_of tags place)
    → IsTagged words tags block → IsTagged words new block
kept_one words tags new block some same tagged = record {
  first = ap told_by (same block.place (omega arith) (omega arith)) ∙ tagged.first;
  last = λ more. ap told_by (same (block.place + block.size - 1) (omega arith) (omega arith)) ∙ tagged.last more;
}

-- blocks stay told where the tags of their words stay
pub kept : (words : ℕ) (tags new : List ℕ) (from end : ℕ) (blocks : List Block) → Fills from blocks end
    → ((place : ℕ) → from ≤ place → place < end → tag_of new place ≡ tag_of tags place) → AreTagged words tags blocks → AreTagged words new blocks
kept words tags new from end [] fills same tagged = tt
kept words tags new from end (block ∷ blocks) fills same tagged =
    let here = fills.0 in
    let le = from-le-end (from + block.size) end blocks fills.2 in (
      kept_one words tags new block fills.1 (λ place ge lt. same place (omega arith) (omega arith)) tagged.0,
      kept words tags new (from + block.size) end blocks fills.2 (λ place ge lt. same place (omega arith) lt) tagged.1,
    )

pub tagged-append : (words : ℕ) (tags : List ℕ) (xs ys : List Block) → AreTagged words tags xs → AreTagged words tags ys → AreTagged words tags (xs ++ ys)
tagged-append words tags [] ys a b = b
tagged-append words tags (x ∷ xs) ys a b = (a.0, tagged-append words tags xs ys a.1 b)

pub tagged_front : (words : ℕ) (tags : List ℕ) (xs ys : List Block) → AreTagged words tags (xs ++ ys) → AreTagged words tags xs
tagged_front words tags [] ys a = tt
tagged_front words tags (x ∷ xs) ys a = (a.0, tagged_front words tags xs ys a.1)

pub tagged_back : (words : ℕ) (tags : List ℕ) (xs ys : List Block) → AreTagged words tags (xs ++ ys) → AreTagged words tags ys
tagged_back words tags [] ys a = a
tagged_back words tags (x ∷ xs) ys a = tagged_back words tags xs ys a.1

-- one block's tags are written
pub one_written : (tags new : List ℕ) (block : Block) → 0 < block.size → OthersStay tags new block → Rewrites tags new block.place (block.place + block.size)
one_written tags new block some others = record {
  below = λ place lt. others place (λ e. absurd (omega arith)) (λ e. absurd (omega arith));
  above = λ place le. others place (λ e. absurd (omega arith)) (λ e. absurd (omega arith));
}

-- what the tags tell after they are written
pub record NowTell (words : ℕ) (tags : List ℕ) (blocks : List Block) : Type 0 where
  pub view : blocks_of words tags ≡ blocks
  pub tell : TellBlocks words tags (blocks_of words tags)

pub now_tell : (words : ℕ) (tags : List ℕ) (blocks : List Block) → TellBlocks words tags blocks → NowTell words tags blocks
now_tell words tags blocks tell =
    let view = told words tags words 0 blocks tell.fills tell.tagged (omega arith) in
    record { view = view; tell = subst (TellBlocks words tags) (sym view) tell }

-- other blocks of the same words take the place of some
pub told_instead : (words : ℕ) (tags new : List ℕ) (from end : ℕ) (before middle instead after : List Block) → Rewrites tags new from end
    → TellBlocks words tags (before ++ (middle ++ after)) → words_of before ≡ from → Fills from middle end → Fills from instead end → AreTagged words new instead
    → NowTell words new (before ++ (instead ++ after))
told_instead words tags new from end before middle instead after writes tell here old now tagged =
    let at : 0 + words_of before ≡ from = omega arith in
    let front = front_fills 0 words before (middle ++ after) tell.fills in
    let rest = subst (λ n. Fills n (middle ++ after) words) at (back_fills 0 words before (middle ++ after) tell.fills) in
    let back = subst (λ n. Fills n after words) (words_of-fills from end middle old) (back_fills from words middle after rest) in
    let more = sym (words_of-fills from end instead now) in
    let both = fills-append from words instead after (subst (λ n. Fills from instead n) more now) (subst (λ n. Fills n after words) more back) in
    let old_back = tagged_back words tags before (middle ++ after) tell.tagged in
    now_tell words new (before ++ (instead ++ after)) (record {
      fills = fills-append 0 words before (instead ++ after) front (subst (λ n. Fills n (instead ++ after) words) (sym at) both);
      tagged =
          tagged-append words new before (instead ++ after)
          (kept words tags new 0 (0 + words_of before) before front (λ place ge lt. writes.below place (omega arith)) (tagged_front words tags before (middle ++ after) tell.tagged))
          (tagged-append words new instead after tagged
          (kept words tags new end words after back (λ place ge lt. writes.above place ge) (tagged_back words tags middle after old_back)));
      limit = tell.limit;
    })

-- where blocks that have words lie, those before them end
pub begins_at : (at from end words : ℕ) (middle after : List Block) → from < end → Fills from middle end → Fills at (middle ++ after) words → at ≡ from
begins_at at from end words [] after some fills whole = absurd (omega arith)
begins_at at from end words (block ∷ middle) after some fills whole = sym whole.0 ∙ fills.0

-- the tags of a block, and where its words lie
pub record LiesIn (words : ℕ) (tags : List ℕ) (block : Block) : Type 0 where
  pub tagged : IsTagged words tags block
  pub some : 0 < block.size
  pub within : block.place + block.size ≤ words

pub lies_in : (words : ℕ) (tags : List ℕ) (blocks : List Block) (block : Block) → TellBlocks words tags blocks → Contains blocks block → LiesIn words tags block
lies_in words tags blocks block tell among =
    let parts = parted blocks block among in
    let fills = subst (λ xs. Fills 0 xs words) parts.2 tell.fills in
    let here = back_fills 0 words parts.0 (block ∷ parts.1) fills in
    let place = here.0 in
    let end = from-le-end ((0 + words_of parts.0) + block.size) words parts.1 here.2 in
    record { tagged = (tagged_back words tags parts.0 (block ∷ parts.1) (subst (AreTagged words tags) parts.2 tell.tagged)).0; some = here.1; within = omega arith }

-- the tag of a block that has no slot yet
pub tag_tells : (size kind : ℕ) (u : Bool) → 0 < size → (kind ≡ 1) × (u ≡ true) ⊎ (kind ≡ 2) × (u ≡ false) → told_by ((size - 1) * 4 + kind) ≡ (size, u)
tag_tells size kind u some (inl (is, used)) = rw (is, used, ne_eqb (((size - 1) * 4 + 1) % 4) 3 (omega arith), lt-ltb (((size - 1) * 4 + 1) % 4) 2 (omega arith)) (ap (λ n. (n, true)) (let e : ((size - 1) * 4 + 1) / 4 + 1 ≡ size = omega arith in e))
tag_tells size kind u some (inr (is, free)) = rw (is, free, ne_eqb (((size - 1) * 4 + 2) % 4) 3 (omega arith), le-ltb (((size - 1) * 4 + 2) % 4) 2 (omega arith)) (ap (λ n. (n, false)) (let e : ((size - 1) * 4 + 2) / 4 + 1 ≡ size = omega arith in e))

-- the tag of one or two free words, and of their slot
pub slot_tells : (size slot : ℕ) → 0 < size → size < 3 → told_by ((slot * 2 + size - 1) * 4 + 3) ≡ (size, false)
slot_tells size slot some few = rw (eq-eqb (((slot * 2 + size - 1) * 4 + 3) % 4) 3 (omega arith), le-ltb (((slot * 2 + size - 1) * 4 + 3) % 4) 2 (omega arith))
    (ap (λ n. (n, false)) (let e : ((slot * 2 + size - 1) * 4 + 3) / 4 % 2 + 1 ≡ size = omega arith in e))

-- a tag that tells a block was written at both its ends
pub ends_written : (words tag : ℕ) (tags new : List ℕ) (block : Block) → told_by tag ≡ (block.size, block.used) → (block.place + block.size < words → tag_of tags (block.place + block.size - 1) ≡ tag)
    → tag_of new block.place ≡ tag → ((place : ℕ) → place ≢ block.place → tag_of new place ≡ tag_of tags place) → IsTagged words new block
ends_written words tag tags new block tells last here others = record { first = ap told_by here ∙ tells; last = λ more. by more (cases_eq (block.place + block.size - 1) block.place) }
  where
    by : block.place + block.size < words → ((block.place + block.size - 1) ≡ block.place) ⊎ ((block.place + block.size - 1) ≢ block.place) → tag_at new (block.place + block.size - 1) ≡ (block.size, block.used)
    by more (inl is) = ap (tag_at new) is ∙ ap told_by here ∙ tells
    by more (inr ne) = ap told_by (others (block.place + block.size - 1) ne ∙ last more) ∙ tells

-- the last block before a place, and what the word before that place tells
pub record LastTold (tags : List ℕ) (before : List Block) (place : ℕ) : Type 0 where
  pub front : List Block
  pub last : Block
  pub split : before ≡ front ++ last ∷ []
  pub tag : tag_at tags (place - 1) ≡ (last.size, last.used)
  pub ends : last.place + last.size ≡ place

pub last_told : (words : ℕ) (tags : List ℕ) (blocks before after : List Block) (place : ℕ) → TellBlocks words tags blocks → blocks ≡ before ++ after → Fills 0 before place → 0 < place → place < words → LastTold tags before place
last_told words tags blocks [] after place tell whole here some within = absurd (omega arith)
last_told words tags blocks (b ∷ bs) after place tell whole here some within =
    let parts = last_of (b ∷ bs) (length bs) (omega arith) in
    let last = parts.1 in
    let own = back_fills 0 place parts.0 (last ∷ []) (subst (λ xs. Fills 0 xs place) parts.2 here) in
    let tagged = tagged_front words tags (b ∷ bs) after (subst (AreTagged words tags) whole tell.tagged) in
    let is = (tagged_back words tags parts.0 (last ∷ []) (subst (AreTagged words tags) parts.2 tagged)).0 in
    let ends : last.place + last.size ≡ place = (let at = own.0 in let end = own.2 in omega arith) in
    record { front = parts.0; last = last; split = parts.2; tag = subst (λ n. tag_at tags (n - 1) ≡ (last.size, last.used)) ends (is.last (omega arith)); ends = ends }

-- the first block from a place on, and what the word there tells
pub record FirstTold (tags : List ℕ) (after : List Block) (place : ℕ) : Type 0 where
  pub first : Block
  pub back : List Block
  pub split : after ≡ first ∷ back
  pub tag : tag_at tags place ≡ (first.size, first.used)
  pub here : first.place ≡ place

first_by : (words : ℕ) (tags : List ℕ) (place : ℕ) (after : List Block) → Fills place after words → AreTagged words tags after → place < words → FirstTold tags after place
first_by words tags place [] fills tagged lt = absurd (omega arith)
first_by words tags place (block ∷ back) fills tagged lt = record {
  first = block;
  back = back;
  split = refl;
  tag = subst (λ n. tag_at tags n ≡ (block.size, block.used)) fills.0 tagged.0.first;
  here = fills.0;
}

pub after_fills : (words : ℕ) (tags : List ℕ) (blocks before after : List Block) (place : ℕ) → TellBlocks words tags blocks → blocks ≡ before ++ after → Fills 0 before place → Fills place after words
after_fills words tags blocks before after place tell whole here =
    let is : 0 + words_of before ≡ place = words_of-fills 0 place before here in
    subst (λ n. Fills n after words) is (back_fills 0 words before after (subst (λ xs. Fills 0 xs words) whole tell.fills))

pub first_told : (words : ℕ) (tags : List ℕ) (blocks before after : List Block) (place : ℕ) → TellBlocks words tags blocks → blocks ≡ before ++ after → Fills 0 before place → place < words → FirstTold tags after place
first_told words tags blocks before after place tell whole here lt =
    first_by words tags place after (after_fills words tags blocks before after place tell whole here) (tagged_back words tags before after (subst (AreTagged words tags) whole tell.tagged)) lt

-- blocks without words are none
pub no_words : (from : ℕ) (blocks : List Block) → Fills from blocks from → EndsFree blocks → ⊥
no_words from [] fills ends = ends
no_words from (block ∷ blocks) fills ends = grind (arith, common_steps, from-le-end (from + block.size) from blocks fills.2)

-- no block begins where the words end
pub none_behind : (place : ℕ) (after : List Block) → Fills place after place → BeginsFree after → ⊥
none_behind place [] fills begins = begins
none_behind place (block ∷ back) fills begins = grind (arith, common_steps, from-le-end (place + block.size) place back fills.2)

pub ends_last : (front : List Block) (last : Block) → EndsFree (front ++ last ∷ []) → IsFree last
ends_last [] last ends = ends
ends_last (x ∷ []) last ends = ends
ends_last (x ∷ y ∷ front) last ends = ends_last (y ∷ front) last ends

pub used_not_free : (u : Bool) → u ≡ true → u ≡ false → ⊥
used_not_free true a b = cc
used_not_free false a b = cc

-- blocks that lie where one is to lie begin where those before them end
covers_at : (words : ℕ) (tags : List ℕ) (from end : ℕ) (before middle after : List Block) → from < end → TellBlocks words tags (before ++ (middle ++ after)) → Fills from middle end → words_of before ≡ from
covers_at words tags from end before middle after some tell fills =
    let at = begins_at (0 + words_of before) from end words middle after some fills (back_fills 0 words before (middle ++ after) tell.fills) in
    omega arith

pub covered_within : (words : ℕ) (tags : List ℕ) (block : Block) (before middle after : List Block) → 0 < block.size → TellBlocks words tags (before ++ (middle ++ after)) → Fills block.place middle (block.place + block.size)
    → block.place + block.size ≤ words
covered_within words tags block before middle after some tell fills =
    let here = covers_at words tags block.place (block.place + block.size) before middle after (omega arith) tell fills in
    let rest = subst (λ n. Fills n (middle ++ after) words) (let e : 0 + words_of before ≡ block.place = omega arith in e) (back_fills 0 words before (middle ++ after) tell.fills) in
    let many = words_of-fills block.place (block.place + block.size) middle fills in
    let le = from-le-end (block.place + words_of middle) words after (back_fills block.place words middle after rest) in
    omega arith

-- one block's tags take the place of some
pub replaced : (words : ℕ) (tags new : List ℕ) (block : Block) (before middle after : List Block) → 0 < block.size → Rewrites tags new block.place (block.place + block.size)
    → TellBlocks words tags (before ++ (middle ++ after)) → Fills block.place middle (block.place + block.size) → IsTagged words new block → NowTell words new (before ++ block ∷ after)
replaced words tags new block before middle after some writes tell fills tagged =
    told_instead words tags new block.place (block.place + block.size) before middle (block ∷ []) after writes tell
    (covers_at words tags block.place (block.place + block.size) before middle after (omega arith) tell fills) fills (refl, some, refl) (tagged, tt)

-- a block's first words are one block now, and its last words another
pub record Cut (words : ℕ) (tags new : List ℕ) (block : Block) (need : ℕ) : Type 0 where
  pub some : 0 < need
  pub enough : need ≤ block.size
  pub writes : Rewrites tags new block.place (block.place + block.size)
  pub tagged : AreTagged words new (used_block block.place need ∷ rest_of (block.place + need) (block.size - need))

pub cut_told : (words : ℕ) (tags new : List ℕ) (block : Block) (need : ℕ) (blocks before after : List Block) → Cut words tags new block need → TellBlocks words tags blocks → blocks ≡ before ++ block ∷ after
    → NowTell words new (before ++ used_block block.place need ∷ (rest_of (block.place + need) (block.size - need) ++ after))
cut_told words tags new block need blocks before after cut tell whole =
    let own = subst (TellBlocks words tags) whole tell in
    let some = cut.some in
    let enough = cut.enough in
    let fills : Fills block.place (block ∷ []) (block.place + block.size) = (refl, omega arith, refl) in
    told_instead words tags new block.place (block.place + block.size) before (block ∷ []) (used_block block.place need ∷ rest_of (block.place + need) (block.size - need)) after cut.writes own
    (covers_at words tags block.place (block.place + block.size) before (block ∷ []) after (omega arith) own fills) fills
    (refl, some, rest_fills (block.place + need) (block.place + block.size) (block.size - need) (omega arith)) cut.tagged
  where
    rest_fills : (from end size : ℕ) → from + size ≡ end → Fills from (rest_of from size) end
    rest_fills from end zero e = omega arith
    rest_fills from end (suc size) e = (refl, omega arith, e)

-- all of its words are used
pub cut_whole : (words : ℕ) (tags new : List ℕ) (block : Block) (need : ℕ) → 0 < need → need ≤ block.size → block.size ≤ need
    → OthersStay tags new (used_block block.place need) → IsTagged words new (used_block block.place need) → Cut words tags new block need
cut_whole words tags new block need some enough all others tagged =
    let same : need ≡ block.size = omega arith in
    let none : block.size - need ≡ 0 = omega arith in
    record {
      some = some;
      enough = enough;
      writes = subst (λ n. Rewrites tags new block.place (block.place + n)) same (one_written tags new (used_block block.place need) some others);
      tagged = (tagged, rw none tt);
    }

-- the rest is free
pub cut_part : (words : ℕ) (tags mid new : List ℕ) (block : Block) (need : ℕ) → 0 < need → need < block.size
    → OthersStay tags mid (free_block (block.place + need) (block.size - need)) → IsTagged words mid (free_block (block.place + need) (block.size - need))
    → OthersStay mid new (used_block block.place need) → IsTagged words new (used_block block.place need)
    → Cut words tags new block need
cut_part words tags mid new block need some part first rest second tagged = record {
  some = some;
  enough = omega arith;
  writes = record {
    below = λ place lt. own.below place lt ∙ behind.below place (omega arith);
    above = λ place le. own.above place (omega arith) ∙ behind.above place (omega arith);
  };
  tagged = (tagged, subst (AreTagged words new) (sym (rest_is (block.place + need) (block.size - need) (omega arith))) (now, tt));
}
  where
    own : Rewrites mid new block.place (block.place + need)
    own = one_written mid new (used_block block.place need) some second

    behind : Rewrites tags mid (block.place + need) ((block.place + need) + (block.size - need))
    behind = one_written tags mid (free_block (block.place + need) (block.size - need)) (omega arith) first

    now : IsTagged words new (free_block (block.place + need) (block.size - need))
    now = kept_one words mid new (free_block (block.place + need) (block.size - need)) (omega arith) (λ place ge lt. own.above place ge) rest

    rest_is : (place size : ℕ) → 0 < size → rest_of place size ≡ free_block place size ∷ []
    rest_is place zero some = absurd (omega arith)
    rest_is place (suc size) some = refl

pub words_told : (words : ℕ) (tags : List ℕ) (blocks : List Block) → TellBlocks words tags blocks → words_of blocks ≡ words
words_told words tags blocks tell = (let all = words_of-fills 0 words blocks tell.fills in omega arith)

-- what a tag tells, as it is read
pub read_size : (tags : List ℕ) (place tag size : ℕ) (u : Bool) → tag_at tags place ≡ (size, u) → tag ≡ tag_of tags place → size_in tag ≡ size
read_size tags place tag size u told read = ap size_in read ∙ ap (λ t. t.0) told

pub read_used : (tags : List ℕ) (place tag size : ℕ) (u : Bool) → tag_at tags place ≡ (size, u) → tag ≡ tag_of tags place → tag % 4 < 2 → u ≡ true
read_used tags place tag size u told read less = sym (ap (λ t. t.1) told) ∙ sym (ap (λ t. nat_lt (t % 4) 2) read) ∙ lt-ltb (tag % 4) 2 less

pub read_free : (tags : List ℕ) (place tag size : ℕ) (u : Bool) → tag_at tags place ≡ (size, u) → tag ≡ tag_of tags place → 2 ≤ tag % 4 → u ≡ false
read_free tags place tag size u told read more = sym (ap (λ t. t.1) told) ∙ sym (ap (λ t. nat_lt (t % 4) 2) read) ∙ le-ltb (tag % 4) 2 more

-- the slot of a block is told by two words of it
pub slot_kept : (tags new : List ℕ) (block : Block) → 0 < block.size → ((place : ℕ) → block.place ≤ place → place < block.place + block.size → tag_of new place ≡ tag_of tags place) → slot_of new block ≡ slot_of tags block
slot_kept tags new block some same = by (cases_lt block.size 3)
  where
    by : (block.size < 3) ⊎ (3 ≤ block.size) → slot_of new block ≡ slot_of tags block
    by (inl few) = rw (lt-ltb block.size 3 few) (ap (λ t. t / 8) (same block.place (omega arith) (omega arith)))
    by (inr more) = rw (le-ltb block.size 3 more) (same (block.place + 1) (omega arith) (omega arith))

-- where a block's words are written, those of other blocks stay
pub slots_stay : (words : ℕ) (tags new : List ℕ) (before middle after : List Block) (from end : ℕ) → from < end → Fills 0 (before ++ (middle ++ after)) words → Fills from middle end → Rewrites tags new from end
    → (block : Block) → Contains (before ++ after) block → slot_of new block ≡ slot_of tags block
slots_stay words tags new before middle after from end some fills own writes block among = by (Contains-append_cases before after block among)
  where
    at : 0 + words_of before ≡ from
    at = begins_at (0 + words_of before) from end words middle after some own (back_fills 0 words before (middle ++ after) fills)

    front : Fills 0 before from
    front = subst (λ n. Fills 0 before n) at (front_fills 0 words before (middle ++ after) fills)

    back : Fills end after words
    back = subst (λ n. Fills n after words) (words_of-fills from end middle own) (back_fills from words middle after (subst (λ n. Fills n (middle ++ after) words) at (back_fills 0 words before (middle ++ after) fills)))

    by : Contains before block ⊎ Contains after block → slot_of new block ≡ slot_of tags block
    by (inl first) = (let lies = lies_from 0 from before block front first in let ends = lies.2 in slot_kept tags new block lies.1 (λ place ge lt. writes.below place (omega arith)))
    by (inr later) = (let lies = lies_from end words after block back later in let starts = lies.0 in slot_kept tags new block lies.1 (λ place ge lt. writes.above place (omega arith)))

-- a block's tags are written again, and tell the same
pub told_again : (words told : ℕ) (tags new : List ℕ) (blocks : List Block) (block : Block) → TellBlocks words tags blocks → Contains blocks block → Rewrites tags new block.place (block.place + block.size) → IsTagged told new block → told ≡ words → NowTell told new blocks
told_again words told tags new blocks block tell among writes tagged same =
    let parts = parted blocks block among in
    let some = (lies_in words tags blocks block tell among).some in
    subst (λ (bs : List Block). NowTell told new bs) (sym parts.2) (subst (λ n. NowTell n new (parts.0 ++ block ∷ parts.1)) (sym same)
    (replaced words tags new block parts.0 (block ∷ []) parts.1 some writes (subst (TellBlocks words tags) parts.2 tell) (refl, some, refl) (subst (λ n. IsTagged n new block) same tagged)))

-- a slot was written to the second of three words and more
pub second_written : (words : ℕ) (tags new : List ℕ) (block : Block) → 3 ≤ block.size → IsTagged words tags block → ((place : ℕ) → place ≢ block.place + 1 → tag_of new place ≡ tag_of tags place)
    → IsTagged words new block × Rewrites tags new block.place (block.place + block.size)
second_written words tags new block more tagged others = (
  record {
    first = ap told_by (others block.place (λ e. absurd (omega arith))) ∙ tagged.first;
    last = λ behind. ap told_by (others (block.place + block.size - 1) (λ e. absurd (omega arith))) ∙ tagged.last behind;
  },
  record { below = λ place lt. others place (λ e. absurd (omega arith)); above = λ place le. others place (λ e. absurd (omega arith)) },
)

pub small_slot : (tags : List ℕ) (block : Block) (slot : ℕ) → 0 < block.size → block.size < 3 → tag_of tags block.place ≡ (slot * 2 + block.size - 1) * 4 + 3 → slot_of tags block ≡ slot
small_slot tags block slot some few is = rw (lt-ltb block.size 3 few) (ap (λ t. t / 8) is ∙ (let e : ((slot * 2 + block.size - 1) * 4 + 3) / 8 ≡ slot = omega arith in e))

pub large_slot : (tags : List ℕ) (block : Block) (slot : ℕ) → 3 ≤ block.size → tag_of tags (block.place + 1) ≡ slot → slot_of tags block ≡ slot
large_slot tags block slot more is = rw (le-ltb block.size 3 more) is
