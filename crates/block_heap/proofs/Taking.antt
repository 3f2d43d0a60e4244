-- What taking a block keeps.
use Rattle.std.proofs.Common.{◌≡◌, ℕ, zero, suc, ◌+◌, ◌-◌, ◌<◌, ◌≤◌, List, [], ◌∷◌, ◌++◌, refl, sym, subst, arith}
use Rattle.std.proofs.lemmas.Grind.{common_steps}
use Rattle.block_heap.specs.declared.block.Block.{Block}
use Rattle.block_heap.specs.Blocks.{free_block, used_block, Fills, IsCoalesced, IsBlockList, words_of}
use Rattle.block_heap.specs.Changes.{rest_of, IsTaken}
use Rattle.block_heap.proofs.Order.{words_of-fills, back_fills, fills_instead, back_merged, merged_instead}

taken_fills : (from end place size need : ℕ) (after : List Block) → 0 < need → need ≤ size → Fills from (free_block place size ∷ after) end → Fills from (used_block place need ∷ (rest_of (place + need) (size - need) ++ after)) end
taken_fills from end place size need after some enough h = grind (arith, common_steps)

rest_merged : (place size other more : ℕ) (after : List Block) → IsCoalesced (free_block place size ∷ after) → IsCoalesced (rest_of other more ++ after)
rest_merged place size other zero after h = h.1
rest_merged place size other (suc more) after h = (h.0, h.1)

taken_merged : (place size need : ℕ) (before after : List Block) → IsCoalesced (before ++ free_block place size ∷ after) → IsCoalesced (before ++ used_block place need ∷ (rest_of (place + need) (size - need) ++ after))
taken_merged place size need before after h =
    let own = back_merged before (free_block place size ∷ after) h in
    merged_instead before (free_block place size ∷ after) (used_block place need ∷ (rest_of (place + need) (size - need) ++ after)) h (λ e. cc)
    ((λ both. let e = both.0 in cc), rest_merged place size (place + need) (size - need) after own)

-- a list stays a block list where a block is taken
pub IsBlockList-taken : (words : ℕ) (old new : List Block) (place need : ℕ) → 0 < need → IsBlockList words old → IsTaken old new place need → IsBlockList words new
IsBlockList-taken words old new place need some list taken =
    let fills = subst (λ xs. Fills 0 xs words) taken.was list.fills in
    let merged = subst IsCoalesced taken.was list.merged in
    record {
      fills = subst (λ xs. Fills 0 xs words) (sym taken.now)
          (fills_instead 0 words taken.before (free_block place taken.size ∷ taken.after)
          (used_block place need ∷ (rest_of (place + need) (taken.size - need) ++ taken.after)) fills (λ at. taken_fills at words place taken.size need taken.after some taken.enough));
      merged = subst IsCoalesced (sym taken.now) (taken_merged place taken.size need taken.before taken.after merged);
    }

pub words_of-list : (words : ℕ) (blocks : List Block) → IsBlockList words blocks → words_of blocks ≡ words
words_of-list words blocks list = let e = words_of-fills 0 words blocks list.fills in omega arith

-- a block's words lie in the heap
pub place_within : (words : ℕ) (before after : List Block) (block : Block) → Fills 0 (before ++ block ∷ after) words → block.place + block.size ≤ words
place_within words before after block h =
    grind (arith, common_steps, back_fills 0 words before (block ∷ after) h, words_of-fills ((0 + words_of before) + block.size) words after (back_fills 0 words before (block ∷ after) h).2)

pub rest_is : (place size : ℕ) → 0 < size → rest_of place size ≡ free_block place size ∷ []
rest_is place zero some = absurd (omega arith)
rest_is place (suc size) some = refl
