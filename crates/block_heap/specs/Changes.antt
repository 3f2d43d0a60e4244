-- How a block list changes where a block is taken or given back.
use Rattle.std.specs.Prelude.{◌≡◌, ℕ, zero, suc, ◌+◌, ◌-◌, ◌<◌, ◌≤◌, ◌||◌, if◌then◌else◌, List, [], ◌∷◌, ◌++◌}
use Rattle.block_heap.specs.declared.block.Block.{Block}
use Rattle.block_heap.specs.Blocks.{free_block, used_block}

-- what is left of a free block: a free block, or nothing where no word is left
abbrev pub rest_of : ℕ → ℕ → List Block
rest_of place zero = []
rest_of place (suc size) = free_block place (suc size) ∷ []

-- A free block's first words are used now, and the rest of it is free. The blocks before and after it stay.
pub record IsTaken (old new : List Block) (place need : ℕ) : Type 0 where
  pub before : List Block
  pub after : List Block
  pub size : ℕ
  pub enough : need ≤ size
  pub was : old ≡ before ++ free_block place size ∷ after
  pub now : new ≡ before ++ used_block place need ∷ (rest_of (place + need) (size - need) ++ after)

-- a block before others, as one with the first of them where both are free
abbrev pub coalesced : Block → List Block → List Block
coalesced block [] = block ∷ []
coalesced block (next ∷ rest) =
    if block.used || next.used then block ∷ next ∷ rest else free_block block.place (block.size + next.size) ∷ rest

-- the blocks with free neighbours made one
abbrev pub merged : List Block → List Block
merged [] = []
merged (block ∷ blocks) = coalesced block (merged blocks)

-- The used block at the place is free now, and one with its free neighbours. All other blocks stay.
pub record IsGiven (old new : List Block) (place : ℕ) : Type 0 where
  pub before : List Block
  pub after : List Block
  pub size : ℕ
  pub was : old ≡ before ++ used_block place size ∷ after
  pub now : new ≡ merged (before ++ free_block place size ∷ after)

-- A used block is two used ones now, the first of as many words as are needed. The blocks before and after it stay.
pub record IsParted (old new : List Block) (place need : ℕ) : Type 0 where
  pub before : List Block
  pub after : List Block
  pub size : ℕ
  pub some : 0 < need
  pub more : need < size
  pub was : old ≡ before ++ used_block place size ∷ after
  pub now : new ≡ before ++ used_block place need ∷ (used_block (place + need) (size - need) ∷ after)
