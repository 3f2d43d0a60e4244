-- What each command makes of an item, and what is answered.
use Rattle.std.specs.Prelude.{ℕ, ◌+◌, ◌-◌, ◌==◌, ◌&&◌, ◌||◌, not, Bool, true, false, List, [], ◌++◌, length, nat_lt, nat_le, decimal, Option, Some, None, if◌then◌else◌}
use Rattle.memcached_text.specs.declared.limits.TheConstants.{MAX_TEXT_LEN}
use Rattle.memcached_text.specs.declared.command.Wants.{Wants}
use Rattle.memcached_text.specs.declared.command.Wants.TheVariants.{Whatever, Absent, Present, Numbered, AtLeast}
use Rattle.memcached_text.specs.declared.command.Side.{Side}
use Rattle.memcached_text.specs.declared.command.Side.TheVariants.{Front, Back}
use Rattle.memcached_text.specs.declared.command.Direction.{Direction}
use Rattle.memcached_text.specs.declared.lifetime.Lifetime.{Lifetime}
use Rattle.memcached_text.specs.declared.item.Item.{Item}
use Rattle.memcached_text.specs.declared.fault.Fault.TheVariants.{TooLarge, NotNumber}
use Rattle.memcached_text.specs.declared.reply.Reply.{Reply}
use Rattle.memcached_text.specs.declared.reply.Reply.TheVariants.{NotStored, Exists, Deleted, NotFound, Touched}
use Rattle.memcached_commands.specs.declared.moment.Moment.{Moment}
use Rattle.memcached_commands.specs.declared.ask.Lease.{Lease}
use Rattle.memcached_commands.specs.declared.ask.Initial.{Initial}
use Rattle.memcached_commands.specs.declared.ask.Left.{Left}
use Rattle.memcached_commands.specs.declared.ask.Ask.{Ask}
use Rattle.memcached_commands.specs.declared.ask.Ask.TheVariants.{Get, GetTouch, Leased, Store, Join, Count, Touch, Delete, Mark, Spoil}
use Rattle.memcached_commands.specs.declared.ask.Says.{Says}
use Rattle.memcached_commands.specs.declared.ask.Says.TheVariants.{Line, Refusal, Stores, Number, Shows, Leases, Nothing}
use Rattle.memcached_commands.specs.Moments.{end_of, ended_by}
use Rattle.memcached_commands.specs.Counting.{number_in, counted, padded}

-- What becomes of an item.
pub data Becoming : Type 0 where
  stays : Becoming
  becomes : Item → Becoming
  goes : Becoming

pub record Decision : Type 0 where
  pub becoming : Becoming
  pub says : Says

-- the item is left
abbrev pub leaves : Says → Decision
leaves says = record { becoming = stays; says = says }

-- an item that is there until this second, or gone at once
abbrev pub kept_until : Option ℕ → Item → Becoming
kept_until None item = goes
kept_until (Some end) item = becomes (record item { expires = end })

-- Seconds

-- the end of an item where a lifetime is asked for, and else as it was
abbrev pub end_by : Moment → Option Lifetime → Item → Option ℕ
end_by at None item = Some item.expires
end_by at (Some lifetime) item = end_of at.second lifetime

-- for how many seconds an item that ends then is left, with a flush that may wait; none where it is left for ever
abbrev pub left_of : Moment → ℕ → Option ℕ
left_of at expires = if ended_by at.until expires == 0 then None else Some (ended_by at.until expires - at.second)

-- one that is to be gone at once is left for none
abbrev pub left_until : Moment → Option ℕ → Option ℕ
left_until at None = Some 0
left_until at (Some end) = left_of at end

abbrev pub left_over : Moment → ℕ → Option ℕ → Left
left_over at before after = record { before = left_of at before; after = left_until at after }

-- the unique number of a new item that is kept until then; none where it is gone at once
abbrev pub number_until : Moment → Option ℕ → Option ℕ
number_until at None = None
number_until at (Some end) = Some at.unique

-- Unique numbers

-- whether an item has the unique number that is asked for, where one is; 0 is nobody's
abbrev pub has_number : Option ℕ → Item → Bool
has_number None item = true
has_number (Some unique) item = unique == item.unique && nat_lt 0 unique

-- what is decided of the item, if it is the one that is meant
abbrev pub if_meant : Option ℕ → Item → Decision → Decision
if_meant unique item decision = if has_number unique item then decision else leaves (Line Exists)

-- Stores

-- a new item, which has no mark
abbrev pub new_item : Moment → ℕ → List ℕ → Item
new_item at flags value = record { flags = flags; expires = 0; unique = at.unique; stale = false; won = false; value = value }

abbrev pub stored : Moment → ℕ → Lifetime → List ℕ → Decision
stored at flags lifetime value = record {
  becoming = kept_until (end_of at.second lifetime) (new_item at flags value);
  says = Stores (number_until at (end_of at.second lifetime));
}

-- what is stored over a later item than was meant: stale, with the end of that one, and won where that one was
abbrev pub stored_late : Moment → ℕ → List ℕ → Item → Decision
stored_late at flags value item = record {
  becoming = becomes (record (new_item at flags value) { expires = item.expires; stale = true; won = item.won });
  says = Stores (Some at.unique);
}

-- the later item over which a store is made all the same, if it is
abbrev pub later_than : Wants → Option Item → Option Item
later_than (AtLeast unique) (Some item) = if unique == item.unique then None else Some item
later_than _ _ = None

-- what is stored where a store finds what it wants
abbrev pub stored_over : Option Item → Moment → ℕ → Lifetime → List ℕ → Decision
stored_over None at flags lifetime value = stored at flags lifetime value
stored_over (Some item) at flags lifetime value = stored_late at flags value item

-- whether a store finds what it wants
abbrev pub is_wanted : Wants → Option Item → Bool
is_wanted Whatever found = true
is_wanted Absent None = true
is_wanted Absent (Some item) = false
is_wanted Present None = false
is_wanted Present (Some item) = true
is_wanted (Numbered unique) None = false
is_wanted (Numbered unique) (Some item) = has_number (Some unique) item
is_wanted (AtLeast unique) None = false
is_wanted (AtLeast unique) (Some item) = nat_lt 0 unique && nat_le unique item.unique

-- what is answered to a store that does not
abbrev pub missed : Wants → Option Item → Reply
missed (Numbered unique) None = NotFound
missed (Numbered unique) (Some item) = Exists
missed (AtLeast unique) None = NotFound
missed (AtLeast unique) (Some item) = Exists
missed _ _ = NotStored

abbrev pub joined : Side → List ℕ → List ℕ → List ℕ
joined Front more value = more ++ value
joined Back more value = value ++ more

-- a join is a new item with the flags and the end of the one before
abbrev pub joined_item : Moment → Side → List ℕ → Item → Item
joined_item at side more item = record (new_item at item.flags (joined side more item.value)) { expires = item.expires }

abbrev pub joins : Moment → Side → List ℕ → Item → Decision
joins at side more item =
    if nat_lt MAX_TEXT_LEN (length item.value + length more) then leaves (Refusal TooLarge)
    else record { becoming = becomes (joined_item at side more item); says = Stores (Some at.unique) }

-- Counts

-- a count is of the same item, with its marks, and has a number of its own
abbrev pub counted_item : Moment → Direction → ℕ → ℕ → Item → Item
counted_item at direction delta number item = record item { unique = at.unique; value = padded (length item.value) (counted direction delta number) }

-- a value that is no number can't be counted
abbrev pub count_from : Option ℕ → Moment → Direction → ℕ → Option Lifetime → Item → Decision
count_from None at direction delta lifetime item = leaves (Refusal NotNumber)
count_from (Some number) at direction delta lifetime item = record {
  becoming = kept_until (end_by at lifetime item) (counted_item at direction delta number item);
  says = Number (counted direction delta number) (number_until at (end_by at lifetime item)) (left_over at item.expires (end_by at lifetime item)) false;
}

-- where no item is there, one may be made with the number that is given, which is not counted
abbrev pub begun : Moment → Option Initial → Decision
begun at None = leaves (Line NotFound)
begun at (Some initial) = record {
  becoming = kept_until (end_of at.second initial.lifetime) (new_item at 0 (decimal initial.number));
  says = Number initial.number (number_until at (end_of at.second initial.lifetime)) (left_over at 0 (end_of at.second initial.lifetime)) true;
}

-- Leases

-- an item that ends is not kept for ever, and ends before this
abbrev pub ends_before : Option ℕ → Option ℕ → Bool
ends_before (Some limit) (Some end) = nat_lt 0 end && nat_lt end limit
ends_before _ _ = false

-- the second that is asked for, if one is
abbrev pub limit_of : Moment → Option Lifetime → Option ℕ
limit_of at None = None
limit_of at (Some recache) = end_of at.second recache

-- a newer item is wanted of one that ends before this second
abbrev pub wants_newer : Moment → Lease → Item → Bool
wants_newer at lease item = ends_before (limit_of at lease.recache) (if lease.is_late then end_by at lease.touch item else Some item.expires)

-- one client is told to store a newer item: the first that asks once it is stale or ends soon
abbrev pub wins : Moment → Lease → Item → Bool
wins at lease item = not item.won && (item.stale || wants_newer at lease item)

-- what is left alone where neither a time is asked for nor a client wins
abbrev pub leased_item : Moment → Option Lifetime → Bool → Item → Becoming
leased_item at None false item = stays
leased_item at touch wins item = kept_until (end_by at touch item) (record item { won = item.won || wins })

abbrev pub leased : Moment → Lease → Item → Decision
leased at lease item = record {
  becoming = leased_item at lease.touch (wins at lease item) item;
  says = Leases item (left_over at item.expires (end_by at lease.touch item)) (wins at lease item);
}

-- where no item is there, one with no value may be made, whose maker wins
abbrev pub vivified : Moment → Option Lifetime → Decision
vivified at None = leaves Nothing
vivified at (Some lifetime) = record {
  becoming = kept_until (end_of at.second lifetime) (record (new_item at 0 []) { won = true });
  says = Leases (new_item at 0 []) (left_over at 0 (end_of at.second lifetime)) true;
}

-- the same item, of which a newer one is wanted, with a number of its own; whoever was to store one before is not any more
abbrev pub outdated : Moment → Item → Item
outdated at item = record item { unique = at.unique; stale = true; won = false }

-- By the command, and by the item that it finds.
unfoldable pub decide : Moment → Ask → Option Item → Decision
decide at Get None = leaves Nothing
decide at Get (Some item) = leaves (Shows item)
decide at (GetTouch lifetime) None = leaves Nothing
decide at (GetTouch lifetime) (Some item) = record { becoming = kept_until (end_of at.second lifetime) item; says = Shows item }
decide at (Leased lease) None = vivified at lease.vivify
decide at (Leased lease) (Some item) = leased at lease item
decide at (Store wants flags lifetime value) found =
    if is_wanted wants found then stored_over (later_than wants found) at flags lifetime value else leaves (Line (missed wants found))
decide at (Join side unique more) None = leaves (Line NotStored)
decide at (Join side unique more) (Some item) = if_meant unique item (joins at side more item)
decide at (Count direction delta unique lifetime initial) None = begun at initial
decide at (Count direction delta unique lifetime initial) (Some item) =
    if_meant unique item (count_from (number_in item.value) at direction delta lifetime item)
decide at (Touch lifetime) None = leaves (Line NotFound)
decide at (Touch lifetime) (Some item) = record { becoming = kept_until (end_of at.second lifetime) item; says = Line Touched }
decide at (Delete unique) None = leaves (Line NotFound)
decide at (Delete unique) (Some item) = if_meant unique item (record { becoming = goes; says = Line Deleted })
decide at (Mark unique lifetime) None = leaves (Line NotFound)
decide at (Mark unique lifetime) (Some item) =
    if_meant unique item (record { becoming = kept_until (end_by at lifetime item) (outdated at item); says = Line Touched })
decide at Spoil found = record { becoming = goes; says = Refusal TooLarge }
