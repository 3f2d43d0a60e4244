-- What a sweep takes away.
use Rattle.std.specs.Prelude.{ℕ, Bool, ◌&&◌, not, nat_le, nat_lt, List, Option, Some, None, if◌then◌else◌}
use Rattle.memcached_text.specs.Item.{item_in}
use Rattle.memcached_commands.specs.Moments.{is_there}
use Rattle.fronts.specs.declared.changing.When.{When}
use Rattle.fronts.specs.Changing.{Becoming, stays, goes}
use Rattle.memcached_decisions.specs.Numbered.{numbered, moment_at}

-- Whether what is stored is an item that is not there any more, and that was stored here: its number is one that its partition gave since it began. What another
-- protocol stored has no such number, but by chance.
abbrev pub is_over : ℕ → When → List ℕ → Bool
is_over base when stored =
    not (is_there (moment_at base when) (item_in stored)) && nat_le base (item_in stored).unique && nat_lt (item_in stored).unique (numbered base when.written)

-- what becomes of what is stored
abbrev pub sweeping : ℕ → When → Option (List ℕ) → Becoming
sweeping base when None = stays
sweeping base when (Some stored) = if is_over base when stored then goes else stays
