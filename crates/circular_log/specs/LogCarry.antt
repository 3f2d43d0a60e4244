-- The item that a marked touch carries to the tail of the log.
use Rattle.std.specs.Prelude.{◌≡◌, ◌≢◌, ℕ, ◌+◌, ◌<◌, Some}
use Rattle.mica_words.specs.Item.{item_size}
use Rattle.mica_words.specs.Stamp.{tail_of}
use Rattle.partition_model.specs.declared.write.Write.{Write}
use Rattle.partition_model.specs.declared.write.Op.TheVariants.{Touch}
use Rattle.partition_model.specs.Cache.{Record, record_of}
use Rattle.partition_model.specs.History.{State, cache_state, store_state, state_of}
use Rattle.partition_words.specs.declared.shape.Shape.{Shape}
use Rattle.partition_words.specs.declared.state.OwnerState.{OwnerState}
use Rattle.partition_words.specs.Layout.{item_at}
use Rattle.partition_words.specs.OwnerState.{options_in}
use Rattle.partition_words.specs.StandsFor.{SpellsItem}
use Rattle.partition_words.specs.Events.{WhenMarked}
use Rattle.circular_log.specs.LogWrite.{with_item}

-- by the state before it, the write is a touch of a key that has this record at one offset, and the tail is the other
abbrev pub IsTouchOf : State → Write → ℕ → ℕ → Record → Type 0
IsTouchOf (cache_state before) write from to held =
    (write.op ≡ Touch) × (record_of before write.key ≡ Some held) × (held.offset ≡ from) × (to ≡ tail_of before.stamp)
IsTouchOf (store_state before) write from to held = ⊥

-- Such a touch is marked, and the words at the first offset spell the record still.
pub record Carries (o : OwnerState) (from to : ℕ) (held : Record) : Type 0 where
  pub touched : WhenMarked o.phase (λ b write before. IsTouchOf (state_of (options_in o) before) write from to held)
  pub there : SpellsItem o from held.key (record { value = held.value; room = held.room })

-- some item stands at the first offset that may be copied to the second
abbrev pub MayCarry : OwnerState → ℕ → ℕ → Type 0
MayCarry o from to = (held : Record) × Carries o from to held

-- the item is stored at the other offset, in a room of its size
abbrev pub IsCarried : OwnerState → ℕ → ℕ → OwnerState → Type 0
IsCarried o from to new = (held : Record) → Carries o from to held
    → new ≡ with_item o to (item_size held.key held.value) held.key held.value

-- where words are copied one after another, none is stored over one that is still to be loaded
abbrev pub StoresBehind : Shape → ℕ → ℕ → ℕ → Type 0
StoresBehind shape from to count =
    (i j : ℕ) → i < j → j < count → item_at shape (to + i) ≢ item_at shape (from + j)
