-- How the index and the heap of a partition go with its owner's words, between writes.
use Rattle.std.specs.Prelude.{◌≡◌, ℕ, ◌<◌, List, length, slice_index, Contains}
use Rattle.std.specs.FinMap.{empty, len}
use Rattle.mica_words.specs.Entry.{entry_offset}
use Rattle.partition_model.specs.declared.options.Mode.TheVariants.{Store}
use Rattle.partition_model.specs.declared.write.Write.{Write}
use Rattle.partition_model.specs.Store.{Cells, rooms, keys_in}
use Rattle.partition_model.specs.History.{State, cache_state, store_state}
use Rattle.partition_words.specs.declared.state.OwnerState.{OwnerState}
use Rattle.partition_words.specs.declared.state.Phase.TheVariants.{Idle}
use Rattle.partition_words.specs.declared.event.Event.TheVariants.{Begins, Marks}
use Rattle.partition_words.specs.Shape.{IsMain}
use Rattle.partition_words.specs.OwnerState.{state_in}
use Rattle.partition_words.specs.StandsFor.{room_in}
use Rattle.partition_words.specs.Events.{after}
use Rattle.block_heap.specs.declared.block.Block.{Block}
use Rattle.block_heap.specs.Blocks.{used_block, used_blocks, words_of, IsBlockList}
use Rattle.chained_index.specs.ChainEntries.{entries_of}
use Rattle.chained_index.specs.Index.{Index, IsIndexOf}

-- the machine's cells, in store mode
abbrev pub cells_of : State → Cells
cells_of (store_state s) = s.cells
cells_of (cache_state s) = empty

abbrev pub cells_in : OwnerState → Cells
cells_in o = cells_of (state_in o)

-- the room of each item that an entry of the bucket names is a used block of the heap
abbrev pub HasBlocks : OwnerState → List Block → ℕ → Type 0
HasBlocks o blocks b = (i : ℕ) → i < length (entries_of o b)
    → Contains (used_blocks blocks)
    (used_block (entry_offset (slice_index (entries_of o b) i)) (room_in o (slice_index (entries_of o b) i)))

-- The index is one of the owner's words, each chain has as many entries as the machine has keys of its bucket, and the
-- used blocks of the heap are the rooms of the machine's cells.
pub record AreParts (index : Index) (blocks : List Block) (o : OwnerState) : Type 0 where
  pub mode : o.shape.mode ≡ Store
  pub idle : o.phase ≡ Idle
  pub known : IsIndexOf index o
  pub entries : (b : ℕ) → IsMain o.shape b → length (entries_of o b) ≡ keys_in o.shape.hashing o.shape.buckets b (cells_in o)
  pub list : IsBlockList o.shape.words blocks
  pub used : (b : ℕ) → IsMain o.shape b → HasBlocks o blocks b
  pub count : length (used_blocks blocks) ≡ len (cells_in o)
  pub words : words_of (used_blocks blocks) ≡ rooms (cells_in o)

-- the write is begun in the bucket, and marked
abbrev pub marked_in_bucket : OwnerState → ℕ → Write → ℕ → OwnerState
marked_in_bucket o b write stamp = after (Marks write stamp) (after (Begins b) o)
