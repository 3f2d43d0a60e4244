-- What two clients of one server said, what was done, and what can't have been.
use Rattle.std.specs.Prelude.{ℕ, false, List, [], ◌∷◌, Some, None, codes}
use Rattle.mica_words.specs.declared.hashing.Hashing.TheVariants.{SipHash}
use Rattle.partition_model.specs.declared.options.Mode.{Mode}
use Rattle.partition_model.specs.declared.options.Options.{Options}
use Rattle.memcached_text.specs.declared.command.Wants.TheVariants.{Whatever}
use Rattle.memcached_text.specs.declared.command.Direction.TheVariants.{Up}
use Rattle.memcached_text.specs.declared.lifetime.Lifetime.TheVariants.{Forever}
use Rattle.memcached_text.specs.declared.fault.Fault.TheVariants.{TooLarge}
use Rattle.memcached_text.specs.declared.item.Item.{Item}
use Rattle.memcached_text.specs.declared.reply.Reply.TheVariants.{Deleted, NoRoom}
use Rattle.memcached_commands.specs.declared.ask.Ask.TheVariants.{Get, Store, Count, Delete, Spoil}
use Rattle.memcached_commands.specs.declared.ask.Left.{Left}
use Rattle.memcached_commands.specs.declared.ask.Says.TheVariants.{Line, Refusal, Stores, Number, Shows}
use Rattle.memcached_commands.specs.Asks.{asked}
use Rattle.memcached_page.specs.Course.{Deed, carried, went, lost, Done}

-- for a client of the one share
abbrev pub for : ℕ → Deed → Done
for client deed = record { share = 0; client = Some client; deed = deed }

-- for none
abbrev pub itself : Deed → Done
itself deed = record { share = 0; client = None; deed = deed }

-- an item of this number, which is kept for ever and has no mark
abbrev pub item : ℕ → List ℕ → Item
item unique value = record { flags = 0; expires = 0; unique = unique; stale = false; won = false; value = value }

-- for ever, before and after
abbrev pub ever : Left
ever = record { before = None; after = None }

-- at second 100, with this number for a new value
abbrev pub sets : ℕ → List ℕ → List ℕ → Deed
sets number key value = carried 100 number (asked (Store Whatever 0 Forever value) key) (Stores (Some number))

abbrev pub shows : ℕ → List ℕ → Item → Deed
shows number key item = carried 100 number (asked Get key) (Shows item)

-- `n` is set to 5 for client 0 and counted up by 2 for client 1; then client 0 gets it
abbrev pub counting : List Done
counting =
    for 0 (sets 1 (codes "n") (codes "5"))
    ∷ for 1 (carried 100 2 (asked (Count Up 2 None None None) (codes "n")) (Number 7 (Some 2) ever false))
    ∷ for 0 (shows 3 (codes "n") (item 2 (codes "7")))
    ∷ []

-- it is set, deleted for another client, and shown all the same
abbrev pub shown_behind_delete : List Done
shown_behind_delete =
    for 0 (sets 1 (codes "n") (codes "5"))
    ∷ for 1 (carried 100 2 (asked (Delete None) (codes "n")) (Line Deleted))
    ∷ for 0 (shows 2 (codes "n") (item 1 (codes "5")))
    ∷ []

-- it is set, and a set of it finds no room; its item is shown behind the deed that follows
abbrev pub shown_behind_refusal : List Done
shown_behind_refusal =
    for 0 (sets 1 (codes "n") (codes "5"))
    ∷ for 1 (carried 100 2 (asked (Store Whatever 0 Forever (codes "6")) (codes "n")) (Line NoRoom))
    ∷ for 1 (carried 100 2 (asked Spoil (codes "n")) (Refusal TooLarge))
    ∷ for 0 (shows 2 (codes "n") (item 1 (codes "5")))
    ∷ []

-- it is set twice, and shown as it was first
abbrev pub shown_stale : List Done
shown_stale =
    for 0 (sets 1 (codes "n") (codes "5"))
    ∷ for 1 (sets 2 (codes "n") (codes "6"))
    ∷ for 0 (shows 3 (codes "n") (item 1 (codes "5")))
    ∷ []

-- it is set, and goes as if it were over
abbrev pub going : List Done
going = for 0 (sets 1 (codes "n") (codes "5")) ∷ itself (went 100 (codes "n")) ∷ []

-- it is set, and lost
abbrev pub losing : List Done
losing = for 0 (sets 1 (codes "n") (codes "5")) ∷ itself (lost (codes "n")) ∷ []

-- it is set, got, and lost
abbrev pub losing_read : List Done
losing_read = for 0 (sets 1 (codes "n") (codes "5")) ∷ for 0 (shows 2 (codes "n") (item 1 (codes "5"))) ∷ itself (lost (codes "n")) ∷ []

-- it is lost once two others were set behind it, each of which takes six words, as it does
abbrev pub losing_old : List Done
losing_old =
    for 0 (sets 1 (codes "n") (codes "5"))
    ∷ for 0 (sets 2 (codes "o") (codes "5"))
    ∷ for 0 (sets 3 (codes "p") (codes "5"))
    ∷ itself (lost (codes "n"))
    ∷ []

-- a store is refused with nothing there
abbrev pub refusing : List Done
refusing = for 0 (carried 100 1 (asked (Store Whatever 0 Forever (codes "5")) (codes "n")) (Line NoRoom)) ∷ []

-- it is set, and a set of a value that is no longer is refused
abbrev pub refusing_as_long : List Done
refusing_as_long =
    for 0 (sets 1 (codes "n") (codes "5"))
    ∷ for 0 (carried 100 2 (asked (Store Whatever 0 Forever (codes "6")) (codes "n")) (Line NoRoom))
    ∷ []

-- it is set, and a delete of it is refused
abbrev pub refusing_delete : List Done
refusing_delete = for 0 (sets 1 (codes "n") (codes "5")) ∷ for 0 (carried 100 2 (asked (Delete None) (codes "n")) (Line NoRoom)) ∷ []

-- it is set, and a set of another key is refused
abbrev pub refusing_other : List Done
refusing_other =
    for 0 (sets 1 (codes "n") (codes "5"))
    ∷ for 0 (carried 100 2 (asked (Store Whatever 0 Forever (codes "5")) (codes "o")) (Line NoRoom))
    ∷ []

-- one part, whose log or heap has so many words
abbrev pub options : Mode → ℕ → Options
options mode words = record { mode = mode; partitions = 1; buckets = 1; spares = 1; words = words; readers = 1; tries = 1; wear = 1000; hashing = SipHash 0 0 }
