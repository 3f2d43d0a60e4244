-- An item of the log, by its words.
use Rattle.std.specs.Prelude.{◌≡◌, ℕ, zero, suc, ◌+◌, ◌<◌, List, [], ◌∷◌, ◌++◌}
use Rattle.mica_words.specs.Item.{KeyFits, StoredFits, item_size}
use Rattle.mica_words.specs.Packing.{AreBytes}
use Rattle.mica_words.specs.Header.{header_room}
use Rattle.partition_model.specs.Store.{Cell}
use Rattle.partition_words.specs.declared.state.OwnerState.{OwnerState}
use Rattle.partition_words.specs.OwnerState.{item_in}
use Rattle.partition_words.specs.StandsFor.{SpellsItem}

-- the words from the offset on spell this key, value and room, which fit
pub record IsItem (o : OwnerState) (p : ℕ) (key : List ℕ) (cell : Cell) : Type 0 where
  pub key_fits : KeyFits key
  pub value_fits : StoredFits cell.value
  pub value_bytes : AreBytes cell.value
  pub room_fits : cell.room < 16777216
  pub spelt : SpellsItem o p key cell

-- an item stands at the offset
abbrev pub HasItem : OwnerState → ℕ → Type 0
HasItem o p = (key : List ℕ) × (cell : Cell) × IsItem o p key cell

-- the value of the item at the offset
abbrev pub IsValueAt : OwnerState → ℕ → List ℕ → Type 0
IsValueAt o p value = (key : List ℕ) (cell : Cell) → IsItem o p key cell → value ≡ cell.value

-- the words of the item at the offset
abbrev pub IsSizeAt : OwnerState → ℕ → ℕ → Type 0
IsSizeAt o p size = (key : List ℕ) (cell : Cell) → IsItem o p key cell → size ≡ item_size key cell.value

-- the item words from the offset on, this many
abbrev pub words_from : OwnerState → ℕ → ℕ → List ℕ
words_from o p zero = []
words_from o p (suc n) = words_from o p n ++ item_in o (p + n) ∷ []

-- the room of the item at the offset, by its header
abbrev pub room_at : OwnerState → ℕ → ℕ
room_at o p = header_room (item_in o p)
