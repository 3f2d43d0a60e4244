-- What is counted of commands: which counter is raised by what a key was asked and what was said of it.
use Rattle.std.specs.Prelude.{true, false, List, ℕ, nat_le, Option, None, Some, if◌then◌else◌}
use Rattle.memcached_text.specs.declared.command.Direction.{Direction}
use Rattle.memcached_text.specs.declared.command.Direction.TheVariants.{Up, Down}
use Rattle.memcached_text.specs.declared.command.Wants.TheVariants.{Numbered, AtLeast}
use Rattle.memcached_text.specs.declared.fault.Fault.{Fault}
use Rattle.memcached_text.specs.declared.fault.Fault.TheVariants.{BadBlock, TooLarge}
use Rattle.memcached_text.specs.declared.lifetime.Lifetime.{Lifetime}
use Rattle.memcached_text.specs.declared.item.Item.{Item}
use Rattle.memcached_text.specs.declared.reply.Reply.TheVariants.{Exists, Deleted, NotFound, NotStored, NoRoom, Touched}
use Rattle.memcached_text.specs.Item.{item_in}
use Rattle.memcached_commands.specs.declared.ask.Ask.{Ask}
use Rattle.memcached_commands.specs.declared.ask.Ask.TheVariants.{Get, GetTouch, Leased, Store, Join, Count, Touch, Delete, Mark, Spoil}
use Rattle.memcached_commands.specs.declared.moment.Moment.{Moment}
use Rattle.memcached_commands.specs.Moments.{is_there}
use Rattle.memcached_commands.specs.declared.ask.Says.{Says}
use Rattle.memcached_commands.specs.declared.ask.Says.TheVariants.{Line, Refusal, Stores, Number, Shows, Leases, Nothing}
use Rattle.memcached_requests.specs.declared.request.Request.TheVariants.{Flush, Said}
use Rattle.memcached_requests.specs.declared.request.Next.{Next}
use Rattle.memcached_requests.specs.declared.request.Next.TheVariants.{Whole}
use Rattle.memcached_stats.specs.declared.counter.Counter.{Counter}
use Rattle.memcached_stats.specs.declared.counter.Counter.TheVariants as counters

-- by a store or a join, whatever came of it, but for one that found no room
abbrev pub counter_of_store : Says → Option Counter
counter_of_store (Line NoRoom) = Some counters.StoresRefused
counter_of_store _ = Some counters.Sets

-- by a store that means an item's number, by what was found
abbrev pub counter_of_swap : Says → Option Counter
counter_of_swap (Stores unique) = Some counters.CasHits
counter_of_swap (Line NotFound) = Some counters.CasMisses
counter_of_swap (Line Exists) = Some counters.CasBadval
counter_of_swap says = counter_of_store says

abbrev pub counter_of_get : Says → Option Counter
counter_of_get (Shows item) = Some counters.GetHits
counter_of_get (Leases item left wins) = Some counters.GetHits
counter_of_get Nothing = Some counters.GetMisses
counter_of_get _ = None

abbrev pub counter_of_touch : Says → Option Counter
counter_of_touch (Shows item) = Some counters.TouchHits
counter_of_touch (Leases item left wins) = Some counters.TouchHits
counter_of_touch (Line Touched) = Some counters.TouchHits
counter_of_touch Nothing = Some counters.TouchMisses
counter_of_touch (Line NotFound) = Some counters.TouchMisses
counter_of_touch _ = None

-- by a get that may lead to a newer item: one that touches is counted as a touch
abbrev pub counter_of_lease : Option Lifetime → Says → Option Counter
counter_of_lease None says = counter_of_get says
counter_of_lease (Some lifetime) says = counter_of_touch says

-- a number that was made is no hit
abbrev pub counter_of_count : Direction → Says → Option Counter
counter_of_count Up (Number n unique left false) = Some counters.IncrHits
counter_of_count Up (Line NotFound) = Some counters.IncrMisses
counter_of_count Down (Number n unique left false) = Some counters.DecrHits
counter_of_count Down (Line NotFound) = Some counters.DecrMisses
counter_of_count _ _ = None

abbrev pub counter_of_delete : Says → Option Counter
counter_of_delete (Line Deleted) = Some counters.DeleteHits
counter_of_delete (Line NotFound) = Some counters.DeleteMisses
counter_of_delete _ = None

-- A get that touches is counted as a touch, an item that is marked but was not there as a delete of none, and a set that is too large takes an item away.
abbrev pub counter_of : Ask → Says → Option Counter
counter_of Get says = counter_of_get says
counter_of (GetTouch lifetime) says = counter_of_touch says
counter_of (Leased lease) says = counter_of_lease lease.touch says
counter_of (Touch lifetime) says = counter_of_touch says
counter_of (Store (Numbered unique) flags lifetime value) says = counter_of_swap says
counter_of (Store (AtLeast unique) flags lifetime value) says = counter_of_swap says
counter_of (Store wants flags lifetime value) says = counter_of_store says
counter_of (Join side unique more) says = counter_of_store says
counter_of (Count direction delta unique lifetime initial) says = counter_of_count direction says
counter_of (Delete unique) says = counter_of_delete says
counter_of (Mark unique lifetime) (Line NotFound) = Some counters.DeleteMisses
counter_of Spoil says = Some counters.StoresTooLarge
counter_of _ _ = None

-- by an item that is not there any more: its own end came, or a flush took it
abbrev pub counter_of_gone : Moment → Item → Option Counter
counter_of_gone at item = if is_there at item then None else Some (if nat_le at.flushed item.unique then counters.Expired else counters.Flushed)

abbrev pub counter_of_stored : Moment → Option (List ℕ) → Option Counter
counter_of_stored at None = None
counter_of_stored at (Some stored) = counter_of_gone at (item_in stored)

-- And beside that by what was said of a key: each item that is stored, and what is stored of a key that was looked for and not found.
abbrev pub counter_beside : Says → Option Counter → Option Counter
counter_beside (Stores unique) stored = Some counters.Items
counter_beside (Number n unique left true) stored = Some counters.Items
counter_beside Nothing stored = stored
counter_beside (Line NotFound) stored = stored
counter_beside (Line NotStored) stored = stored
counter_beside _ stored = None

-- by what is refused: a store whose block came with no end behind it, and one of a value that is too long
abbrev pub counter_of_refusal : Fault → Option Counter
counter_of_refusal BadBlock = Some counters.Sets
counter_of_refusal TooLarge = Some counters.StoresTooLarge
counter_of_refusal _ = None

-- and by what is wanted, whatever came of it: each flush, and what is refused
abbrev pub counter_by : Next → Option Counter
counter_by (Whole (Flush due) style len last) = Some counters.Flushes
counter_by (Whole (Said (Refusal fault)) style len last) = counter_of_refusal fault
counter_by _ = None
