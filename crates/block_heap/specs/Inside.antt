-- What the heap keeps.
use Rattle.std.specs.Prelude.{◌≡◌, ℕ, ◌+◌, ◌≤◌, Option, Some, None, List, [], ◌∷◌, Contains, IfSome, ◌<◌}
use Rattle.block_heap.specs.Ranks.{rank_of}
use Rattle.block_heap.specs.declared.block.TheConstants.{MOST_WORDS}
use Rattle.block_heap.specs.declared.block.Block.{Block}
use Rattle.block_heap.specs.Blocks.{IsFree, IsBlockList, free_sizes, words_of}
use Rattle.block_heap.specs.Lists.{Lists, AreListed, list_of, place_in, count_of}
use Rattle.block_heap.specs.Tags.{slot_of}

-- a block list, and the lists of its free blocks, with a tag for each of its words
pub record IsHeap (blocks : List Block) (tags : List ℕ) (lists : Lists) : Type 0 where
  pub list : IsBlockList (words_of blocks) blocks
  pub listed : AreListed lists tags blocks
  pub same : lists.0 ≡ words_of blocks
  pub limit : words_of blocks ≤ MOST_WORDS

-- there is room for a tag of each word
pub record KeepsRow (words room : ℕ) : Type 0 where
  pub limit : words ≤ MOST_WORDS
  pub enough : words ≤ room

-- a neighbour as a list
abbrev pub blocks_in : Option Block → List Block
blocks_in None = []
blocks_in (Some block) = block ∷ []

-- the words of a neighbour, or 0 where there is none
abbrev pub words_in : Option Block → ℕ
words_in None = 0
words_in (Some block) = block.size

-- a neighbour is free, and stands in the list of its rank
abbrev pub IsListable : Lists → List ℕ → Option Block → Type 0
IsListable lists tags neighbour =
    IfSome neighbour (λ block. IsFree block × (1 ≤ block.size) × (block.place + block.size ≤ MOST_WORDS) × Contains (list_of lists (rank_of block.size)) (slot_of tags block) × (0 < count_of lists))

-- a free block has the slot
pub record HasFreeAt (blocks : List Block) (tags : List ℕ) (lists : Lists) (slot : ℕ) : Type 0 where
  pub block : Block
  pub among : Contains blocks block
  pub free : IsFree block
  pub here : slot_of tags block ≡ slot
  pub place : place_in lists slot ≡ block.place

-- the free blocks that have the slots of a list have fewer words than are needed
abbrev pub AreShort : List Block → List ℕ → List ℕ → ℕ → Type 0
AreShort blocks tags list need = (block : Block) → Contains blocks block → IsFree block → Contains list (slot_of tags block) → block.size < need

-- the largest size of those that have the slots of a list, or 0 where there is none
pub record IsMost (blocks : List Block) (tags : List ℕ) (list : List ℕ) (most : ℕ) : Type 0 where
  pub bound : (block : Block) → Contains blocks block → IsFree block → Contains list (slot_of tags block) → block.size ≤ most
  pub found : 0 < most → Contains (free_sizes blocks) most
