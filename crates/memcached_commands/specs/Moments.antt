-- When a command is carried out, and which items are there then.
use Rattle.std.specs.Prelude.{ℕ, ◌+◌, ◌==◌, ◌||◌, ◌&&◌, Bool, List, nat_le, nat_lt, min, Option, Some, None, if◌then◌else◌}
use Rattle.memcached_text.specs.declared.lifetime.Lifetime.{Lifetime}
use Rattle.memcached_text.specs.declared.lifetime.Lifetime.TheVariants.{Forever, Over, For, Until}
use Rattle.memcached_text.specs.declared.item.Item.{Item}
use Rattle.memcached_text.specs.Item.{item_in}
use Rattle.memcached_commands.specs.declared.moment.TheConstants.{LAST_SECOND}
use Rattle.memcached_commands.specs.declared.moment.Moment.{Moment}

-- The second from which on an item is not there any more, and 0 where it is kept for ever. None where it is to be gone at once.
unfoldable pub end_of : ℕ → Lifetime → Option ℕ
end_of second Forever = Some 0
end_of second Over = None
end_of second (For seconds) = Some (min (second + seconds) LAST_SECOND)
end_of second (Until end) = if nat_le end second then None else Some end

-- the end of an item, and that of a flush that waits at the latest
abbrev pub ended_by : ℕ → ℕ → ℕ
ended_by until expires =
    if until == 0 then expires else (if expires == 0 then min until LAST_SECOND else min (min until LAST_SECOND) expires)

-- its time has not come, and no flush took it
abbrev pub is_there : Moment → Item → Bool
is_there at item = (item.expires == 0 || nat_lt at.second item.expires) && nat_le at.flushed item.unique

-- the item that a command finds where this is stored
abbrev pub found_in : Moment → Option (List ℕ) → Option Item
found_in at None = None
found_in at (Some stored) = if is_there at (item_in stored) then Some (item_in stored) else None
