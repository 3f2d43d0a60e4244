-- The words stand for the machine's state in a bucket.
use Rattle.std.specs.Prelude.{◌≡◌, ◌≢◌, ℕ, ◌+◌, ◌<◌, ◌≤◌, List, Some, option_map, slice_index}
use Rattle.std.specs.FinMap.{get}
use Rattle.mica_words.specs.Hash.{tag_of}
use Rattle.mica_words.specs.Entry.{entry_tag, entry_offset}
use Rattle.mica_words.specs.Header.{header_room}
use Rattle.mica_words.specs.Item.{item_size}
use Rattle.mica_words.specs.Spelling.{item_words}
use Rattle.partition_model.specs.declared.options.Mode.{Mode}
use Rattle.partition_model.specs.declared.options.Mode.TheVariants.{Cache, Store}
use Rattle.partition_model.specs.Cache.{Record, record_of}
use Rattle.partition_model.specs.Store.{Cell}
use Rattle.partition_model.specs.History.{State, cache_state, store_state}
use Rattle.partition_words.specs.declared.state.OwnerState.{OwnerState}
use Rattle.partition_words.specs.Shape.{IsMain}
use Rattle.partition_words.specs.Layout.{item_at}
use Rattle.partition_words.specs.OwnerState.{item_in, state_in, bucket_in, marked_in}
use Rattle.partition_words.specs.Chain.{InChain, IsDense}
use Rattle.partition_words.specs.LiveEntry.{HasLiveEntry}

-- what a record of the log holds, and at which offset
abbrev pub cell_at : Record → Cell × ℕ
cell_at found = (record { value = found.value; room = found.room }, found.offset)

-- The machine has this value and room for the key. A record of the log has its offset too.
abbrev pub Has : State → List ℕ → Cell → ℕ → Type 0
Has (cache_state s) key cell p = option_map cell_at (record_of s key) ≡ Some (cell, p)
Has (store_state s) key cell p = get s.cells key ≡ Some cell

-- the words from the offset on are those of the item
abbrev pub SpellsItem : OwnerState → ℕ → List ℕ → Cell → Type 0
SpellsItem o p key cell = (i : ℕ) → i < item_size key cell.value
    → item_in o (p + i) ≡ slice_index (item_words o.shape.hashing cell.room key cell.value) i

-- In store mode an offset is the place of a block.
abbrev pub IsOffset : Mode → ℕ → ℕ → Type 0
IsOffset Cache words p = Unit {0}
IsOffset Store words p = p < words

-- the room of the item that an entry names, as the item's header has it now
abbrev pub room_in : OwnerState → ℕ → ℕ
room_in o entry = header_room (item_in o (entry_offset entry))

-- The entry, with the item at its offset, spells what the machine has of a key of the bucket. The
-- item's hash word is among its words.
pub record Spells (o : OwnerState) (b entry : ℕ) (key : List ℕ) (cell : Cell) : Type 0 where
  pub bucket : bucket_in o key ≡ b
  pub has : Has (state_in o) key cell (entry_offset entry)
  pub offset : IsOffset o.shape.mode o.shape.words (entry_offset entry)
  pub tag : entry_tag entry ≡ tag_of o.shape.hashing key
  pub item : SpellsItem o (entry_offset entry) key cell
  pub in_room : item_size key cell.value ≤ room_in o entry

-- the offset names a word of the room of the entry's item
abbrev pub IsInRoom : OwnerState → ℕ → ℕ → Type 0
IsInRoom o entry p =
    (i : ℕ) × (i < room_in o entry) × (item_at o.shape (entry_offset entry + i) ≡ item_at o.shape p)

abbrev pub RoomsApart : OwnerState → ℕ → ℕ → Type 0
RoomsApart o entry entry' = (p : ℕ) → IsInRoom o entry p → ¬ (IsInRoom o entry' p)

-- in store mode the chain of the bucket is dense, and no spare in it is in another chain
abbrev pub HasChain : Mode → OwnerState → ℕ → Type 0
HasChain Cache o b = Unit {0}
HasChain Store o b = IsDense o b
    × ((c d : ℕ) → IsMain o.shape c → c ≢ b → InChain o b d → ¬ (InChain o c d))

-- The words stand for the machine's state in the bucket.
pub record StandsFor (o : OwnerState) (b : ℕ) : Type 0 where
  -- each live entry spells something of the state
  pub nothing_else : (c slot entry : ℕ) → HasLiveEntry o b c slot entry
      → (key : List ℕ) × (cell : Cell) × Spells o b entry key cell
  -- each of the bucket's records or pairs is spelt
  pub each : (key : List ℕ) (cell : Cell) (p : ℕ)
      → bucket_in o key ≡ b → Has (state_in o) key cell p
      → (c : ℕ) × (slot : ℕ) × (entry : ℕ)
      × HasLiveEntry o b c slot entry × Spells o b entry key cell
  -- and only once
  pub once : (c slot entry c' slot' entry' : ℕ) (key : List ℕ) (cell : Cell)
      → HasLiveEntry o b c slot entry → HasLiveEntry o b c' slot' entry'
      → Spells o b entry key cell → Spells o b entry' key cell → (c ≡ c') × (slot ≡ slot')
  -- the rooms of the bucket's live items share no word
  pub rooms : (c slot entry c' slot' entry' : ℕ)
      → HasLiveEntry o b c slot entry → HasLiveEntry o b c' slot' entry'
      → ¬ ((c ≡ c') × (slot ≡ slot')) → RoomsApart o entry entry'
  -- nor do they with the room of a live item of another bucket that is not marked
  pub apart : (other c slot entry c' slot' entry' : ℕ)
      → IsMain o.shape other → other ≢ b → marked_in o.phase other ≡ 0
      → HasLiveEntry o b c slot entry → HasLiveEntry o other c' slot' entry'
      → RoomsApart o entry entry'
  pub chain : HasChain o.shape.mode o b
