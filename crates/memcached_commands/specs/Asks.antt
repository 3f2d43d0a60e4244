-- What a client's commands ask of which keys.
use Rattle.std.specs.Prelude.{ℕ, Bool, false, List, [], ◌∷◌, map, Option, Some, None}
use Rattle.memcached_text.specs.declared.command.Command.{Command}
use Rattle.memcached_text.specs.declared.command.Command.TheVariants as commands
use Rattle.memcached_text.specs.declared.lifetime.Lifetime.{Lifetime}
use Rattle.memcached_text.specs.declared.next.Next.{Next}
use Rattle.memcached_text.specs.declared.next.Next.TheVariants as nexts
use Rattle.memcached_commands.specs.declared.ask.Ask.{Ask}
use Rattle.memcached_commands.specs.declared.ask.Ask.TheVariants.{Get, GetTouch, Store, Join, Count, Touch, Delete, Spoil}
use Rattle.memcached_commands.specs.declared.asks.Asked.{Asked}

-- what is asked of a key
abbrev pub asked : Ask → List ℕ → Asked
asked ask key = record { key = key; ask = ask }

-- what a get asks of each of its keys
abbrev pub get_ask : Option Lifetime → Ask
get_ask None = Get
get_ask (Some lifetime) = GetTouch lifetime

-- What a command asks, in order. Commands that have no key ask nothing. A line tells no number but of a store, and no other field of what may be asked.
abbrev pub asks_of : Command → List Asked
asks_of (commands.Get keys unique lifetime) = map (asked (get_ask lifetime)) keys
asks_of (commands.Store wants key flags lifetime value quiet) = asked (Store wants flags lifetime value) key ∷ []
asks_of (commands.Join side key value quiet) = asked (Join side None value) key ∷ []
asks_of (commands.Count direction key delta quiet) = asked (Count direction delta None None None) key ∷ []
asks_of (commands.Delete key quiet) = asked (Delete None) key ∷ []
asks_of (commands.Touch key lifetime quiet) = asked (Touch lifetime) key ∷ []
asks_of _ = []

-- Of what is refused, a set that is too large takes away the item of its key.
abbrev pub asks_in : Next → List Asked
asks_in (nexts.Command command len) = asks_of command
asks_in (nexts.Refused fault (Some key) quiet len) = asked Spoil key ∷ []
asks_in _ = []

-- whether a command asks for the unique numbers of what it gets
abbrev pub wants_numbers : Command → Bool
wants_numbers (commands.Get keys unique lifetime) = unique
wants_numbers _ = false
