-- Blocks told by tags: the size and the use of each stand at its first word and at its last, and a free one has a slot.
use Rattle.std.specs.Prelude.{Option, Some, None, Contains, ◌++◌, ◌≡◌, ◌≢◌, ℕ, zero, suc, ◌+◌, ◌-◌, ◌/◌, ◌%◌, ◌<◌, ◌≤◌, ◌==◌, Bool, List, [], ◌∷◌, slice_index_or, nat_lt, if◌then◌else◌}
use Rattle.block_heap.specs.declared.block.TheConstants.{MOST_WORDS}
use Rattle.block_heap.specs.declared.block.Block.{Block}
use Rattle.block_heap.specs.Blocks.{Fills, IsFree, BeginsFree}

-- the tag of a word, which is 0 where none was written
abbrev pub tag_of : List ℕ → ℕ → ℕ
tag_of tags place = slice_index_or tags place 0

-- the size that a tag tells: one or two words in a tag that has a slot too, and any size in the others
abbrev pub size_in : ℕ → ℕ
size_in tag = if tag % 4 == 3 then tag / 4 % 2 + 1 else tag / 4 + 1

-- the size and the use that a word tells
abbrev pub tag_at : List ℕ → ℕ → ℕ × Bool
tag_at tags place = (size_in (tag_of tags place), nat_lt (tag_of tags place % 4) 2)

-- the slot of a free block: in the tag of its first word where it has no more than two, else that of its second word
abbrev pub slot_of : List ℕ → Block → ℕ
slot_of tags block = if nat_lt block.size 3 then tag_of tags block.place / 8 else tag_of tags (block.place + 1)

-- A block's first word tells its size and use, and so does its last, unless no word is behind it.
pub record IsTagged (words : ℕ) (tags : List ℕ) (block : Block) : Type 0 where
  pub first : tag_at tags block.place ≡ (block.size, block.used)
  pub last : block.place + block.size < words → tag_at tags (block.place + block.size - 1) ≡ (block.size, block.used)

abbrev pub AreTagged : ℕ → List ℕ → List Block → Type 0
AreTagged words tags [] = Unit {0}
AreTagged words tags (block ∷ blocks) = IsTagged words tags block × AreTagged words tags blocks

-- so many blocks at most, from a place on, as their first words tell them
unfoldable pub blocks_from : ℕ → List ℕ → ℕ → ℕ → List Block
blocks_from words tags zero place = []
blocks_from words tags (suc most) place =
    if nat_lt place words then
    record { place = place; size = size_in (tag_of tags place); used = nat_lt (tag_of tags place % 4) 2 }
    ∷ blocks_from words tags most (place + size_in (tag_of tags place))
    else []

-- the blocks that the tags tell, one for each word at most
abbrev pub blocks_of : ℕ → List ℕ → List Block
blocks_of words tags = blocks_from words tags words 0

-- the tags tell blocks that fill the words
pub record TellBlocks (words : ℕ) (tags : List ℕ) (blocks : List Block) : Type 0 where
  pub fills : Fills 0 blocks words
  pub tagged : AreTagged words tags blocks
  pub limit : words ≤ MOST_WORDS

-- the words but those of the block's two ends have the tags that they had
abbrev pub OthersStay : List ℕ → List ℕ → Block → Type 0
OthersStay tags new block =
    (place : ℕ) → place ≢ block.place → place ≢ block.place + block.size - 1 → tag_of new place ≡ tag_of tags place

-- the tags of the words from one place to another are written, and no others
pub record Rewrites (tags new : List ℕ) (from end : ℕ) : Type 0 where
  pub below : (place : ℕ) → place < from → tag_of new place ≡ tag_of tags place
  pub above : (place : ℕ) → end ≤ place → tag_of new place ≡ tag_of tags place

-- a block begins at the place
pub record HasBlock (blocks : List Block) (place : ℕ) : Type 0 where
  pub block : Block
  pub among : Contains blocks block
  pub here : block.place ≡ place

-- one block ends and the next one begins at the place, or the words begin or end there
pub record IsSeam (blocks : List Block) (place : ℕ) : Type 0 where
  pub before : List Block
  pub after : List Block
  pub whole : blocks ≡ before ++ after
  pub here : Fills 0 before place

-- the last block is free
abbrev pub EndsFree : List Block → Type 0
EndsFree [] = ⊥
EndsFree (block ∷ []) = IsFree block
EndsFree (block ∷ next ∷ blocks) = EndsFree (next ∷ blocks)

-- the last block where that is free, else none
abbrev pub IsLastFree : List Block → Option Block → Type 0
IsLastFree blocks None = ¬ (EndsFree blocks)
IsLastFree blocks (Some last) = (front : List Block) × (blocks ≡ front ++ last ∷ []) × IsFree last

-- the first block where that is free, else none
abbrev pub IsFirstFree : List Block → Option Block → Type 0
IsFirstFree blocks None = ¬ (BeginsFree blocks)
IsFirstFree blocks (Some first) = (back : List Block) × (blocks ≡ first ∷ back) × IsFree first

-- some blocks in a row lie where the block is to lie
pub record Covers (blocks : List Block) (block : Block) : Type 0 where
  pub before : List Block
  pub middle : List Block
  pub after : List Block
  pub whole : blocks ≡ before ++ (middle ++ after)
  pub fills : Fills block.place middle (block.place + block.size)
