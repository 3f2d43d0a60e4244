-- Commands whose parts have the lengths that an item's may have.
use Rattle.std.specs.Prelude.{⊤, ℕ, ◌^◌, ◌<◌, ◌≤◌, List, length, Option, None, Some}
use Rattle.std.specs.List.{AllByRecursion}
use Rattle.memcached_text.specs.declared.limits.TheConstants.{MAX_KEY_LEN, MAX_TEXT_LEN}
use Rattle.memcached_text.specs.declared.command.Command.{Command}
use Rattle.memcached_text.specs.declared.command.Command.TheVariants.{Get, Store, Join, Count, Delete, Touch, Flush}
use Rattle.memcached_text.specs.declared.command.Wants.{Wants}
use Rattle.memcached_text.specs.declared.command.Wants.TheVariants.{Numbered, AtLeast}
use Rattle.memcached_text.specs.declared.lifetime.Lifetime.{Lifetime}
use Rattle.memcached_text.specs.declared.next.Next.{Next}
use Rattle.memcached_text.specs.declared.next.Next.TheVariants as nexts
use Rattle.memcached_text.specs.Lifetimes.{IsLifetime, IsDue}

-- a key that is not empty, and not too long
abbrev pub IsFitKey : List ℕ → Type 0
IsFitKey key = (0 < length key) × (length key ≤ MAX_KEY_LEN)

-- a unique number has 64 bits
abbrev pub IsWant : Wants → Type 0
IsWant (Numbered unique) = unique < 2 ^ 64
IsWant (AtLeast unique) = unique < 2 ^ 64
IsWant _ = ⊤

-- a lifetime, where there is one
abbrev pub IsKept : Option Lifetime → Type 0
IsKept None = ⊤
IsKept (Some lifetime) = IsLifetime lifetime

-- each key is fit, and so are the value and the numbers
abbrev pub IsFit : Command → Type 0
IsFit (Get keys unique lifetime) = AllByRecursion IsFitKey keys × IsKept lifetime
IsFit (Store wants key flags lifetime value quiet) =
    IsWant wants × IsFitKey key × (flags < 2 ^ 32) × IsLifetime lifetime × (length value ≤ MAX_TEXT_LEN)
IsFit (Join side key value quiet) = IsFitKey key × (length value ≤ MAX_TEXT_LEN)
IsFit (Count direction key delta quiet) = IsFitKey key × (delta < 2 ^ 64)
IsFit (Delete key quiet) = IsFitKey key
IsFit (Touch key lifetime quiet) = IsFitKey key × IsLifetime lifetime
IsFit (Flush due quiet) = IsDue due
IsFit _ = ⊤

-- where it is a command, it is fit, and so is the key of an item that is to go
abbrev pub IsFitNext : Next → Type 0
IsFitNext (nexts.Command command len) = IsFit command
IsFitNext (nexts.Refused fault (Some key) quiet len) = IsFitKey key
IsFitNext _ = ⊤
