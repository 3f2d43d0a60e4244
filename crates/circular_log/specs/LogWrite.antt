-- The item that a marked write stores in the log.
use Rattle.std.specs.Prelude.{◌≡◌, ℕ, List, Option, Some, None}
use Rattle.mica_words.specs.Item.{item_size}
use Rattle.mica_words.specs.Spelling.{item_words}
use Rattle.partition_model.specs.declared.options.Options.{Options}
use Rattle.partition_model.specs.declared.write.Write.{Write}
use Rattle.partition_model.specs.Cache.{Record, record_of}
use Rattle.partition_model.specs.CacheStep.{after_write}
use Rattle.partition_model.specs.History.{State, cache_state, store_state, state_of}
use Rattle.partition_model.specs.Store.{Cell}
use Rattle.partition_words.specs.declared.state.OwnerState.{OwnerState}
use Rattle.partition_words.specs.OwnerState.{options_in}
use Rattle.partition_words.specs.StandsFor.{SpellsItem}
use Rattle.partition_words.specs.Events.{WhenMarked, plays, puts_from}

-- the record that a write leaves its key, before the log passes and the index displaces
abbrev pub written_record : Options → State → Write → Option Record
written_record options (cache_state before) write = record_of (after_write options before write) write.key
written_record options (store_state before) write = None

-- the marked write leaves its key this value, in an item at the offset with this room
abbrev pub LeavesItem : OwnerState → ℕ → ℕ → List ℕ → List ℕ → Type 0
LeavesItem o p room key value =
    WhenMarked o.phase (λ b write before. written_record (options_in o) (state_of (options_in o) before) write
    ≡ Some (record { key = key; value = value; offset = p; room = room }))

-- the marked write appends its item at the offset, in a room of the item's size
abbrev pub MayAppend : OwnerState → ℕ → List ℕ → List ℕ → Type 0
MayAppend o p key value = LeavesItem o p (item_size key value) key value

-- an item of the key stands at the offset, and the marked write leaves it there with another value, in the same room
pub record MayRewrite (o : OwnerState) (p : ℕ) (key value : List ℕ) : Type 0 where
  pub cell : Cell
  pub there : SpellsItem o p key cell
  pub leaves : LeavesItem o p cell.room key value

-- the state with an item of this room, key and value stored at the offset
abbrev pub with_item : OwnerState → ℕ → ℕ → List ℕ → List ℕ → OwnerState
with_item o p room key value = plays (puts_from p (item_words o.shape.hashing room key value)) o
