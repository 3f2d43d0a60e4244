-- What an optimistic update relies on.
use Rattle.std.specs.Prelude.{◌≡◌, ℕ, ◌+◌, ◌^◌, ◌<◌, List, [], ◌∷◌, ◌++◌, length, Option, Some, option_map}
use Rattle.partition_model.specs.declared.options.Options.{Options}
use Rattle.partition_model.specs.declared.write.Write.{Write}
use Rattle.partition_model.specs.declared.write.Outcome.{Outcome}
use Rattle.partition_model.specs.Write.{GivesValue}
use Rattle.partition_model.specs.History.{History, IsPrefix, answer_of}
use Rattle.memcached_text.specs.declared.command.Wants.TheVariants.{Numbered}
use Rattle.memcached_text.specs.declared.lifetime.Lifetime.{Lifetime}
use Rattle.memcached_text.specs.declared.item.Item.{Item}
use Rattle.memcached_text.specs.Item.{item_in, IsItem}
use Rattle.memcached_commands.specs.declared.ask.Ask.{Ask}
use Rattle.memcached_commands.specs.declared.ask.Ask.TheVariants.{Store}
use Rattle.memcached_commands.specs.declared.ask.Says.{Says}
use Rattle.memcached_commands.specs.declared.ask.Says.TheVariants.{Stores, Shows}
use Rattle.memcached_commands.specs.Asks.{get_ask}
use Rattle.memcached_commands.specs.Laws.{IsSameValue}
use Rattle.fronts.specs.Looks.{Look, IsLookAt}
use Rattle.fronts.specs.Changing.{write_by}
use Rattle.memcached_decisions.specs.Numbered.{numbered, becoming_by, says_by}

-- A command that is carried out behind this history is answered so.
pub record IsSaid (options : Options) (base : ℕ) (history : History) (key : List ℕ) (ask : Ask) (says : Says) : Type 0 where
  pub look : Look
  pub looked : IsLookAt options history key look
  pub outcome : Option Outcome
  pub said : says_by (record { ask = ask; base = base }) look.when look.value outcome ≡ says

-- A command that is carried out behind this history makes this write.
pub record IsOfCommand (options : Options) (base : ℕ) (history : History) (write : Write) : Type 0 where
  pub ask : Ask
  pub look : Look
  pub looked : IsLookAt options history write.key look
  pub decided : write_by (becoming_by (record { ask = ask; base = base })) write.key look ≡ Some write

-- From one history on to a later one only commands store something under the key. Over UDP one could put an item with any number.
abbrev pub OnlyCommandsStore : Options → ℕ → List ℕ → History → History → Type 0
OnlyCommandsStore options base key first last =
    (now : History) (write : Write) → IsPrefix first now → IsPrefix (now ++ write ∷ []) last → write.key ≡ key → GivesValue write.op → IsOfCommand options base now write

-- what is stored is this item, but for its end: it has its number, its flags and its value
abbrev pub IsStill : Item → Option (List ℕ) → Type 0
IsStill item stored = IsSameValue (option_map item_in stored) item

-- The partition has drawn this number: it is below each that it draws behind this history.
abbrev pub IsDrawn : ℕ → ℕ → History → Type 0
IsDrawn base unique history = unique < numbered base (length history)

-- A `gets` showed an item, and a later `cas` with its number stores. Then the key had that item all the time between, but for its end: nobody stored
-- anything else under it, and it was never gone.
abbrev pub SwapsWhatStands : Type 0
SwapsWhatStands = (options : Options) (base : ℕ) (key : List ℕ) (item : Item) (touched : Option Lifetime) (flags : ℕ) (lifetime : Lifetime) (value : List ℕ) (told : Option ℕ)
    (first now last : History) → IsPrefix first now → IsPrefix now last
    → IsItem item → IsDrawn base item.unique first → OnlyCommandsStore options base key first last
    → IsSaid options base first key (get_ask touched) (Shows item)
    → IsSaid options base last key (Store (Numbered item.unique) flags lifetime value) (Stores told)
    → IsStill item (answer_of options now key)

-- The number of an item that commands stored is drawn.
abbrev pub StoredIsDrawn : Type 0
StoredIsDrawn = (options : Options) (base : ℕ) (key : List ℕ) (item : Item) (history : History) → base + length history < 2 ^ 62
    → OnlyCommandsStore options base key [] history → IsStill item (answer_of options history key) → IsDrawn base item.unique history
