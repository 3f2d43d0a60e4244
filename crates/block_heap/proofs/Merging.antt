-- What merging free neighbours keeps, and where it changes nothing.
use Rattle.std.proofs.Common.{◌≡◌, ℕ, ◌+◌, List, [], ◌∷◌, ◌++◌, refl, ap, ◌∙◌, arith, Bool, true, false, ◌||◌, cond}
use Rattle.std.proofs.lemmas.Grind.{common_steps}
use Rattle.block_heap.specs.declared.block.Block.{Block}
use Rattle.block_heap.specs.Blocks.{free_block, IsFree, Fills, BeginsFree, IsCoalesced}
use Rattle.block_heap.specs.Changes.{coalesced, merged}

pub both_false : (a b : Bool) → (a || b) ≡ false → (a ≡ false) × (b ≡ false)
both_false true b e = cc
both_false false b e = (refl, e)

not_both_false : (a b : Bool) → (a || b) ≡ true → (a ≡ false) × (b ≡ false) → ⊥
not_both_false true b e h = let f = h.0 in cc
not_both_false false b e h = let f = h.1 in cc

pub joined_fills : (from end : ℕ) (block : Block) (blocks : List Block) → Fills from (block ∷ blocks) end → Fills from (coalesced block blocks) end
joined_fills from end block [] h = h
joined_fills from end block (next ∷ rest) h = grind (arith, common_steps)

pub merged_fills : (from end : ℕ) (blocks : List Block) → Fills from blocks end → Fills from (merged blocks) end
merged_fills from end [] h = h
merged_fills from end (block ∷ blocks) h = joined_fills from end block (merged blocks) (h.0, h.1, merged_fills (from + block.size) end blocks h.2)

joined_merged_by : (block next : Block) (rest : List Block) (v : Bool) → (block.used || next.used) ≡ v → IsCoalesced (next ∷ rest) → IsCoalesced (cond v (block ∷ next ∷ rest) (free_block block.place (block.size + next.size) ∷ rest))
joined_merged_by block next rest true e h = (not_both_false block.used next.used e, h)
joined_merged_by block next rest false e h = (λ both. h.0 ((both_false block.used next.used e).1, both.1), h.1)

joined_merged : (block : Block) (blocks : List Block) → IsCoalesced blocks → IsCoalesced (coalesced block blocks)
joined_merged block [] h = (λ both. both.1, tt)
joined_merged block (next ∷ rest) h = joined_merged_by block next rest (block.used || next.used) refl h

pub merged_merged : (blocks : List Block) → IsCoalesced (merged blocks)
merged_merged [] = tt
merged_merged (block ∷ blocks) = joined_merged block (merged blocks) (merged_merged blocks)

begins_by : (block next : Block) (rest : List Block) (v : Bool) → (block.used || next.used) ≡ v → BeginsFree (cond v (block ∷ next ∷ rest) (free_block block.place (block.size + next.size) ∷ rest)) → IsFree block
begins_by block next rest true e h = h
begins_by block next rest false e h = (both_false block.used next.used e).0

-- what begins with a free block began with one
pub joined_begins : (block : Block) (blocks : List Block) → BeginsFree (coalesced block blocks) → IsFree block
joined_begins block [] h = h
joined_begins block (next ∷ rest) h = begins_by block next rest (block.used || next.used) refl h

apart_by : (block next : Block) (rest : List Block) (v : Bool) → (block.used || next.used) ≡ v → ((IsFree block × IsFree next) → ⊥) → cond v (block ∷ next ∷ rest) (free_block block.place (block.size + next.size) ∷ rest) ≡ block ∷ next ∷ rest
apart_by block next rest true e not_both = refl
apart_by block next rest false e not_both = absurd (not_both (both_false block.used next.used e))

pub joined_apart : (block : Block) (blocks : List Block) → ((IsFree block × BeginsFree blocks) → ⊥) → coalesced block blocks ≡ block ∷ blocks
joined_apart block [] not_both = refl
joined_apart block (next ∷ rest) not_both = apart_by block next rest (block.used || next.used) refl not_both

pub merged_same : (blocks : List Block) → IsCoalesced blocks → merged blocks ≡ blocks
merged_same [] h = refl
merged_same (block ∷ blocks) h = ap (coalesced block) (merged_same blocks h.1) ∙ joined_apart block blocks h.0

-- where nothing is to be merged with a front, it stays
pub merged_behind : (xs ys : List Block) → IsCoalesced (xs ++ merged ys) → merged (xs ++ ys) ≡ xs ++ merged ys
merged_behind [] ys h = refl
merged_behind (x ∷ xs) ys h = ap (coalesced x) (merged_behind xs ys h.1) ∙ joined_apart x (xs ++ merged ys) h.0
