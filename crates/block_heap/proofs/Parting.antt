-- What parting a used block keeps.
use Rattle.std.proofs.Common.{◌≡◌, ℕ, ◌+◌, ◌-◌, ◌<◌, ◌≤◌, List, [], ◌∷◌, ◌++◌, refl, sym, ap, ◌∙◌, subst, arith, append_assoc}
use Rattle.std.specs.List.{Contains}
use Rattle.std.proofs.lemmas.Grind.{common_steps}
use Rattle.block_heap.specs.declared.block.Block.{Block}
use Rattle.block_heap.specs.Blocks.{free_block, used_block, used_blocks, Fills, IsCoalesced, IsBlockList, HasUsed, HasLonger, words_of}
use Rattle.block_heap.specs.Changes.{rest_of, IsParted}
use Rattle.block_heap.specs.Inside.{IsHeap}
use Rattle.block_heap.specs.Lists.{Lists, AreListed}
use Rattle.block_heap.specs.Tags.{Rewrites, Covers}
use Rattle.block_heap.proofs.Giving.{UsedAt, used_at}
use Rattle.block_heap.proofs.Keeping.{heap_with, beside_stay}
use Rattle.block_heap.proofs.Listing.{listed_beside, listed_without, listed_slots}
use Rattle.block_heap.proofs.Order.{back_merged, fills_instead, merged_instead}
use Rattle.block_heap.proofs.Places.{in_middle}
use Rattle.block_heap.proofs.Taking.{rest_is}
use Rattle.block_heap.proofs.UsedBlocks.{used_blocks-append}

-- a list stays a block list where a used block is parted
pub IsBlockList-parted : (words : ℕ) (old new : List Block) (place need : ℕ) → IsBlockList words old → IsParted old new place need → IsBlockList words new
IsBlockList-parted words old new place need list parted =
    let one = used_block place parted.size ∷ parted.after in
    let two = used_block place need ∷ (used_block (place + need) (parted.size - need) ∷ parted.after) in
    let own = subst (IsBlockList words) parted.was list in
    subst (IsBlockList words) (sym parted.now) (record {
      fills = fills_instead 0 words parted.before one two own.fills (λ at fills. fills_two at fills);
      merged = merged_instead parted.before one two own.merged (λ e. cc) (merged_two (back_merged parted.before one own.merged));
    })
  where
    fills_two : (at : ℕ) → Fills at (used_block place parted.size ∷ parted.after) words → Fills at (used_block place need ∷ (used_block (place + need) (parted.size - need) ∷ parted.after)) words
    fills_two at fills = grind (arith, common_steps, parted.some, parted.more)

    merged_two : IsCoalesced (used_block place parted.size ∷ parted.after) → IsCoalesced (used_block place need ∷ (used_block (place + need) (parted.size - need) ∷ parted.after))
    merged_two h = ((λ both. let e = both.0 in cc), ((λ both. let e = both.0 in cc), h.1))

-- the used block is longer than the need, once its size was read
pub longer : (blocks now : List Block) (place size need : ℕ) → IsBlockList (words_of blocks) blocks → blocks ≡ now → HasLonger now place need → ((block : Block) → Contains blocks block → block.place ≡ place → size ≡ block.size) → need < size
longer blocks now place size need list view has tells =
    let own = subst (λ (bs : List Block). HasLonger bs place need) (sym view) has in
    let used = used_at (words_of blocks) blocks place list own.has in
    let more = own.more in
    omega (arith, tells (used_block place own.has.size) used.among refl)

-- A used block's first words were cut off, and the rest was used again.
module _ (blocks cut : List Block) (tags mid : List ℕ) (lists : Lists) (place size need : ℕ) (heap : IsHeap blocks tags lists) (used : UsedAt (words_of blocks) blocks place size) (some : 0 < need) (more : need < size)
    (cut_is : (before after : List Block) → blocks ≡ before ++ used_block place size ∷ after → cut ≡ before ++ used_block place need ∷ (rest_of (place + need) (size - need) ++ after))
    (cut_tags : Rewrites tags mid place (place + size)) where
  -- the rest lies behind the first words
  pub is_cut : cut ≡ (used.before ++ used_block place need ∷ []) ++ (free_block (place + need) (size - need) ∷ [] ++ used.after)
  is_cut = cut_is used.before used.after used.is
      ∙ ap (λ xs. used.before ++ used_block place need ∷ (xs ++ used.after)) (rest_is (place + need) (size - need) (omega arith))
      ∙ sym (append_assoc used.before (used_block place need ∷ []) (free_block (place + need) (size - need) ∷ used.after))

  pub fills_rest : Fills (place + need) (free_block (place + need) (size - need) ∷ []) (place + need + (size - need))
  fills_rest = (refl, omega arith, refl)

  pub covers : Covers cut (used_block (place + need) (size - need))
  covers = record { before = used.before ++ used_block place need ∷ []; middle = free_block (place + need) (size - need) ∷ []; after = used.after; whole = is_cut; fills = fills_rest }

  module _ (now : List Block) (told : List ℕ) (now_is : (before middle after : List Block) → cut ≡ before ++ (middle ++ after) → Fills (place + need) middle (place + need + (size - need)) → now ≡ before ++ used_block (place + need) (size - need) ∷ after)
      (now_tags : Rewrites mid told (place + need) (place + need + (size - need))) where
    abbrev pub parted : IsParted blocks now place need
    parted = record {
      before = used.before;
      after = used.after;
      size = size;
      some = some;
      more = more;
      was = used.is;
      now = now_is (used.before ++ used_block place need ∷ []) (free_block (place + need) (size - need) ∷ []) used.after is_cut fills_rest
          ∙ append_assoc used.before (used_block place need ∷ []) (used_block (place + need) (size - need) ∷ used.after);
    }

    pub list : IsBlockList (words_of blocks) now
    list = IsBlockList-parted (words_of blocks) blocks now place need heap.list parted

    writes : Rewrites tags told place (place + size)
    writes = record {
      below = λ p lt. now_tags.below p (omega arith) ∙ cut_tags.below p lt;
      above = λ p le. now_tags.above p (omega arith) ∙ cut_tags.above p le;
    }

    listed : AreListed lists told now
    listed =
        let block = used_block place size in
        let was = listed_without lists tags used.before used.after block refl (subst (AreListed lists tags) used.is heap.listed) in
        let beside = listed_slots lists tags told (used.before ++ used.after) (beside_stay (words_of blocks) tags told blocks used.before used.after block heap.list used.is writes) was in
        let second = used_block (place + need) (size - need) in
        subst (AreListed lists told) (sym parted.now)
        (listed_beside lists told used.before (second ∷ used.after) (used_block place need) refl (listed_beside lists told used.before used.after second refl beside))

    pub heap_parted : IsHeap now told lists
    heap_parted = heap_with blocks now tags told lists lists heap list listed refl

-- a used block begins behind the first words
pub has_rest : (old new : List Block) (place need : ℕ) → IsParted old new place need → HasUsed new (place + need)
has_rest old new place need parted =
    let front = parted.before ++ used_block place need ∷ [] in
    let rest = used_block (place + need) (parted.size - need) in
    let is = parted.now ∙ sym (append_assoc parted.before (used_block place need ∷ []) (rest ∷ parted.after)) in
    record {
      size = parted.size - need;
      among = subst (λ (bs : List Block). Contains bs rest) (sym (ap used_blocks is ∙ used_blocks-append front (rest ∷ parted.after))) (in_middle (used_blocks front) (used_blocks parted.after) rest);
    }
