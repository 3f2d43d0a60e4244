-- The slots of free blocks, in lists by rank.
use Rattle.std.specs.Prelude.{◌≡◌, ◌==◌, if◌then◌else◌, ℕ, ◌+◌, ◌-◌, ◌<◌, ◌≤◌, min, List, [], ◌∷◌, ◌++◌, length, sum_by, Contains, Option, Some, None}
use Rattle.block_heap.specs.Ranks.{rank_of}
use Rattle.block_heap.specs.Marks.{mark_at}
use Rattle.block_heap.specs.declared.block.TheConstants.{MOST_WORDS}
use Rattle.block_heap.specs.declared.block.Block.{Block}
use Rattle.block_heap.specs.declared.links.Link.{Link}
use Rattle.block_heap.specs.Blocks.{IsFree, free_sizes}
use Rattle.block_heap.specs.Links.{node_of, place_of, slots_after, LeadOver}
use Rattle.block_heap.specs.Slots.{most_slots, AreApart}
use Rattle.block_heap.specs.Tags.{slot_of}

-- how many words there are, the links, and the spare slots
abbrev pub Lists : Type 0
Lists = ℕ × List Link × List ℕ

-- the list of a rank; after a node, the slots that are left
abbrev pub list_of : Lists → ℕ → List ℕ
list_of lists node = slots_after lists.1 lists.0 node

-- the place that a slot has
abbrev pub place_in : Lists → ℕ → ℕ
place_in lists slot = place_of lists.1 slot

-- how many slots are in lists
abbrev pub count_of : Lists → ℕ
count_of lists = length lists.1 - 1152 - length lists.2

-- what a block counts in the list of a rank, where each slot counts so much
abbrev pub count_in : ℕ → (ℕ → ℕ) → List ℕ → Block → ℕ
count_in rank weight tags block = if block.used then 0 else if rank_of block.size == rank then weight (slot_of tags block) else 0

-- The lists have the slots of the free blocks, each in the list of its rank: whatever each slot counts, the
-- list of a rank counts as much as the free blocks of that rank. Each slot has its block's place, and no others are in lists.
pub record AreListed (lists : Lists) (tags : List ℕ) (blocks : List Block) : Type 0 where
  pub sums : (rank : ℕ) → rank < 1152 → (weight : ℕ → ℕ) → sum_by weight (list_of lists rank) ≡ sum_by (count_in rank weight tags) blocks
  pub places : (block : Block) → Contains blocks block → IsFree block → place_in lists (slot_of tags block) ≡ block.place
  pub count : count_of lists ≡ length (free_sizes blocks)

-- the slot is in none of the lists
abbrev pub IsUnlisted : (ℕ → List ℕ) → ℕ → Type 0
IsUnlisted lists slot = (rank : ℕ) → rank < 1152 → ¬ (Contains (lists rank) slot)

-- a list without one of its slots
pub record IsWithout (old new : List ℕ) (slot : ℕ) : Type 0 where
  pub before : List ℕ
  pub after : List ℕ
  pub was : old ≡ before ++ slot ∷ after
  pub now : new ≡ before ++ after

-- the slot is in one of the lists
pub record IsListed (lists : ℕ → List ℕ) (slot : ℕ) : Type 0 where
  pub rank : ℕ
  pub few : rank < 1152
  pub among : Contains (lists rank) slot

-- the slots from one on, in its list
abbrev pub left_from : (ℕ → List ℕ) → Option ℕ → List ℕ
left_from lists None = []
left_from lists (Some slot) = slot ∷ lists (node_of slot)

-- The links from the head of each list lead over its slots back to it, and the bits say which lists have one.
pub record KeepsLists (words : ℕ) (links : List Link) (filled : List ℕ) : Type 0 where
  pub limit : words ≤ MOST_WORDS
  pub heads : 1152 ≤ length links
  pub rings : (rank : ℕ) → rank < 1152 → LeadOver links rank (slots_after links words rank) rank
  pub marks : (rank : ℕ) → rank < 1152 → mark_at filled rank ≡ min 1 (length (slots_after links words rank))

-- There is room for a node and for a spare of each slot, and the spares are slots that are in no list.
pub record KeepsSlots (words : ℕ) (links : List Link) (room : ℕ) (spares : List ℕ) (spare_room : ℕ) : Type 0 where
  pub within : length links ≤ most_slots words + 1152
  pub enough : most_slots words + 1152 ≤ room
  pub spare_enough : most_slots words ≤ spare_room
  pub few : length spares + 1152 ≤ length links
  pub apart : AreApart spares
  pub nodes : (slot : ℕ) → Contains spares slot → node_of slot < length links
  pub unlisted : (slot : ℕ) → Contains spares slot → IsUnlisted (slots_after links words) slot

pub record KeepsAll (words : ℕ) (links : List Link) (room : ℕ) (spares : List ℕ) (spare_room : ℕ) (filled : List ℕ) : Type 0 where
  pub lists : KeepsLists words links filled
  pub slots : KeepsSlots words links room spares spare_room
