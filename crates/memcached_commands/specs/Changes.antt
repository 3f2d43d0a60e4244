-- What becomes of what is stored under a key.
use Rattle.std.specs.Prelude.{◌≡◌, ⊤, ℕ, Bool, true, false, List, Option, Some, None}
use Rattle.memcached_text.specs.declared.item.Item.{Item}
use Rattle.memcached_text.specs.Item.{item_text}
use Rattle.memcached_commands.specs.declared.moment.Moment.{Moment}
use Rattle.memcached_commands.specs.declared.ask.Ask.{Ask}
use Rattle.memcached_text.specs.declared.command.Wants.TheVariants.{Whatever}
use Rattle.memcached_commands.specs.declared.ask.Ask.TheVariants.{Get, Store, Spoil}
use Rattle.partition_model.specs.declared.change.Change.{Change}
use Rattle.partition_model.specs.declared.change.Change.TheVariants.{Stay, Become, Go}
use Rattle.memcached_commands.specs.Moments.{ended_by, found_in}
use Rattle.memcached_commands.specs.Decide.{Becoming, stays, becomes, goes, decide}

-- a get leaves all that it finds, whatever is there of it
abbrev pub only_gets : Ask → Bool
only_gets Get = true
only_gets _ = false

-- what is stored and not there is not left by a command that may change it
abbrev pub without_dead : Bool → Option (List ℕ) → Option Item → Becoming → Becoming
without_dead false (Some stored) None stays = goes
without_dead _ _ _ becoming = becoming

-- What is stored while a flush waits ends with it at the latest, so that flush takes what came behind it too.
abbrev pub ends_with_flush : Moment → Becoming → Becoming
ends_with_flush at stays = stays
ends_with_flush at (becomes item) = becomes (record item { expires = ended_by at.until item.expires })
ends_with_flush at goes = goes

-- What a command makes of what is stored.
abbrev pub becoming_of : Moment → Ask → Option (List ℕ) → Becoming
becoming_of at ask stored = without_dead (only_gets ask) stored (found_in at stored) (ends_with_flush at (decide at ask (found_in at stored)).becoming)

-- what a call answers for it, and leaves in a buffer: the text of the item that is to be
abbrev pub IsChange : Becoming → Change → List ℕ → Type 0
IsChange stays Stay next = ⊤
IsChange (becomes item) Become next = next ≡ item_text item
IsChange goes Go next = ⊤
IsChange _ _ _ = ⊥

-- Whether that depends on what is stored. It does not for a set, and for one that is too large.
abbrev pub looks : Ask → Bool
looks (Store Whatever flags lifetime value) = false
looks Spoil = false
looks _ = true
