-- The blocks of a heap: a list in order of place.
use Rattle.std.specs.Prelude.{◌≡◌, ℕ, ◌+◌, ◌-◌, ◌*◌, ◌<◌, ◌≤◌, not, true, false, List, [], ◌∷◌, length, map, filter, sum_by, All, Contains}
use Rattle.block_heap.specs.declared.block.Block.{Block}

-- a block that is free
abbrev pub free_block : ℕ → ℕ → Block
free_block place size = record { place = place; size = size; used = false }

-- a block that is in use
abbrev pub used_block : ℕ → ℕ → Block
used_block place size = record { place = place; size = size; used = true }

abbrev pub IsFree : Block → Type 0
IsFree block = block.used ≡ false

-- the blocks follow one another from a place to an end, each of a word or more
abbrev pub Fills : ℕ → List Block → ℕ → Type 0
Fills from [] end = from ≡ end
Fills from (block ∷ blocks) end = (block.place ≡ from) × (0 < block.size) × Fills (from + block.size) blocks end

-- the first block is free
abbrev pub BeginsFree : List Block → Type 0
BeginsFree [] = ⊥
BeginsFree (block ∷ _) = IsFree block

-- no free block is followed by a free one
abbrev pub IsCoalesced : List Block → Type 0
IsCoalesced [] = Unit {0}
IsCoalesced (block ∷ blocks) = (¬ (IsFree block × BeginsFree blocks)) × IsCoalesced blocks

-- the blocks fill a heap of this many words, and no two free ones touch
pub record IsBlockList (words : ℕ) (blocks : List Block) : Type 0 where
  pub fills : Fills 0 blocks words
  pub merged : IsCoalesced blocks

-- the words of all blocks
abbrev pub words_of : List Block → ℕ
words_of blocks = sum_by (λ block. block.size) blocks

-- those that are in use, in order
abbrev pub used_blocks : List Block → List Block
used_blocks blocks = filter (λ block. block.used) blocks

abbrev pub free_sizes : List Block → List ℕ
free_sizes blocks = map (λ block. block.size) (filter (λ block. not block.used) blocks)

-- a used block begins at the place
pub record HasUsed (blocks : List Block) (place : ℕ) : Type 0 where
  pub size : ℕ
  pub among : Contains (used_blocks blocks) (used_block place size)

-- a used block of more words than are needed begins at the place
pub record HasLonger (blocks : List Block) (place need : ℕ) : Type 0 where
  pub has : HasUsed blocks place
  pub some : 0 < need
  pub more : need < has.size

-- no free block has as many words as are needed
abbrev pub NoneFits : List Block → ℕ → Type 0
NoneFits blocks need = All (λ size. size < need) (free_sizes blocks)

-- the size of the largest free block, or 0 where there is none
pub record IsLargest (blocks : List Block) (size : ℕ) : Type 0 where
  pub bound : All (λ other. other ≤ size) (free_sizes blocks)
  pub found : 0 < size → Contains (free_sizes blocks) size

-- The used blocks may cut the free words into pieces that are all too short: n of them part these into n + 1 pieces at most.
abbrev pub MayLack : List Block → ℕ → Type 0
MayLack blocks need =
    words_of blocks ≤ (length (used_blocks blocks) + 1) * (need - 1) + words_of (used_blocks blocks)
