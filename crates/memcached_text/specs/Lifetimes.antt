-- How long an item is to be kept, and when a flush is due.
use Rattle.std.specs.Prelude.{⊤, ℕ, ◌==◌, ◌^◌, ◌%◌, ◌<◌, ◌≤◌, List, drop, nat_le, Option, option_map, if◌then◌else◌}
use Rattle.std.specs.Str.Parse.{starts_with_minus}
use Rattle.memcached_text.specs.declared.lifetime.TheConstants.{MAX_SECONDS, LAST_SAID, MOST_ABOVE, MOST_BELOW}
use Rattle.memcached_text.specs.declared.lifetime.Lifetime.{Lifetime}
use Rattle.memcached_text.specs.declared.lifetime.Lifetime.TheVariants.{Forever, Over, For, Until}
use Rattle.memcached_text.specs.declared.lifetime.Due.{Due}
use Rattle.memcached_text.specs.declared.lifetime.Due.TheVariants.{Now, After, At}
use Rattle.memcached_text.specs.Numbers.{number_of}

-- Up to thirty days are counted from the present second, more is a time of day. A number of 32 bits from 2 ^ 31 on is one
-- below 0, as clients in C write -1.
abbrev pub lifetime_at : ℕ → Lifetime
lifetime_at number =
    if number == 0 then Forever
    else (if nat_le number MAX_SECONDS then For number else (if nat_le number LAST_SAID then Until number else Over))

-- below 0, which is no longer at all
abbrev pub lifetime_below : ℕ → Lifetime
lifetime_below number = if number == 0 then Forever else Over

-- The lifetime that a word says. None where it is no number of 64 bits with a sign. Above 0 its last 32 bits count.
unfoldable pub lifetime_of : List ℕ → Option Lifetime
lifetime_of word =
    if starts_with_minus word then option_map lifetime_below (number_of MOST_BELOW (drop 1 word))
    else option_map (λ number. lifetime_at (number % 2 ^ 32)) (number_of MOST_ABOVE word)

-- a flush that is given a lifetime takes place at its end, or at once where it has none
abbrev pub due_of : Lifetime → Due
due_of Forever = Now
due_of Over = Now
due_of (For seconds) = After seconds
due_of (Until second) = At second

-- a number of seconds from now on
abbrev pub AreSeconds : ℕ → Type 0
AreSeconds number = (0 < number) × (number ≤ MAX_SECONDS)

-- a second, from the beginning of 1970 on
abbrev pub IsSecond : ℕ → Type 0
IsSecond number = (MAX_SECONDS < number) × (number < 2 ^ 32)

-- a lifetime of an item
abbrev pub IsLifetime : Lifetime → Type 0
IsLifetime (For seconds) = AreSeconds seconds
IsLifetime (Until second) = IsSecond second
IsLifetime _ = ⊤

-- a time of a flush
abbrev pub IsDue : Due → Type 0
IsDue (After seconds) = AreSeconds seconds
IsDue (At second) = IsSecond second
IsDue Now = ⊤

-- a lifetime that a word may say: a second has 31 bits
abbrev pub IsSaid : Lifetime → Type 0
IsSaid (Until second) = IsSecond second × (second ≤ LAST_SAID)
IsSaid lifetime = IsLifetime lifetime

-- a time of a flush that a word may say
abbrev pub IsSaidDue : Due → Type 0
IsSaidDue (At second) = IsSecond second × (second ≤ LAST_SAID)
IsSaidDue due = IsDue due
