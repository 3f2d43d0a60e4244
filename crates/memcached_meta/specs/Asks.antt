-- What meta commands ask: a classic command's ask with more fields.
use Rattle.std.specs.Prelude.{ℕ, ◌==◌, ◌||◌, Bool, true, false, List, [], codes, bytes_eq, Option, Some, None, option_map, if◌then◌else◌}
use Rattle.memcached_text.specs.declared.lifetime.Lifetime.{Lifetime}
use Rattle.memcached_text.specs.declared.lifetime.Lifetime.TheVariants.{Forever}
use Rattle.memcached_text.specs.declared.command.Wants.{Wants}
use Rattle.memcached_text.specs.declared.command.Wants.TheVariants.{Whatever, Absent, Present, Numbered, AtLeast}
use Rattle.memcached_text.specs.declared.command.Side.TheVariants.{Front, Back}
use Rattle.memcached_text.specs.declared.command.Direction.{Direction}
use Rattle.memcached_text.specs.declared.command.Direction.TheVariants.{Up, Down}
use Rattle.memcached_commands.specs.declared.ask.Lease.{Lease}
use Rattle.memcached_commands.specs.declared.ask.Initial.{Initial}
use Rattle.memcached_commands.specs.declared.ask.Ask.{Ask}
use Rattle.memcached_commands.specs.declared.ask.Ask.TheVariants as asks
use Rattle.memcached_meta.specs.declared.line.Verb.{Verb}
use Rattle.memcached_meta.specs.declared.line.Verb.TheVariants.{Get, Store, Delete, Count, Debug}
use Rattle.memcached_meta.specs.Flags.{argument_of, has_flag, flag_lifetime, flag_number, flag_short, vivified, is_late}

-- what is told, or this where nothing is
abbrev pub or_else_this : {A : Type 0} → A → Option A → A
or_else_this this None = this
or_else_this this (Some a) = a

-- the mode that is asked for; nothing where none is
abbrev pub mode_of : List (List ℕ) → List ℕ
mode_of flags = or_else_this [] (argument_of (codes "M") flags)

-- what a meta get asks
abbrev pub lease_of : List (List ℕ) → Lease
lease_of flags = record {
  touch = flag_lifetime (codes "T") flags;
  vivify = vivified flags;
  recache = flag_lifetime (codes "R") flags;
  is_late = is_late flags;
}

-- a number that is compared: 0 is none
abbrev pub unless_zero : Option ℕ → Option ℕ
unless_zero None = None
unless_zero (Some n) = if n == 0 then None else Some n

-- what a store wants: the item of a number where one is told, and where `I` stands also a later one
abbrev pub wants_number : Bool → Option ℕ → Wants → Wants
wants_number stale None wants = wants
wants_number false (Some unique) wants = Numbered unique
wants_number true (Some unique) wants = AtLeast unique

abbrev pub wants_of : List (List ℕ) → Wants
wants_of flags =
    if bytes_eq (mode_of flags) (codes "E") then Absent
    else wants_number (has_flag (codes "I") flags) (flag_number (codes "C") flags)
    (if bytes_eq (mode_of flags) (codes "R") then Present else Whatever)

abbrev pub store_of : List (List ℕ) → List ℕ → Ask
store_of flags value =
    if bytes_eq (mode_of flags) (codes "A") then asks.Join Back (unless_zero (flag_number (codes "C") flags)) value
    else (if bytes_eq (mode_of flags) (codes "P") then asks.Join Front (unless_zero (flag_number (codes "C") flags)) value
    else asks.Store (wants_of flags) (or_else_this 0 (flag_short (codes "F") flags)) (or_else_this Forever (flag_lifetime (codes "T") flags)) value)

abbrev pub delete_of : List (List ℕ) → Ask
delete_of flags =
    if has_flag (codes "I") flags then asks.Mark (flag_number (codes "C") flags) (flag_lifetime (codes "T") flags)
    else asks.Delete (flag_number (codes "C") flags)

abbrev pub direction_of : List (List ℕ) → Direction
direction_of flags = if bytes_eq (mode_of flags) (codes "D") || bytes_eq (mode_of flags) (codes "-") then Down else Up

abbrev pub initial_by : Option Lifetime → ℕ → Option Initial
initial_by None number = None
initial_by (Some lifetime) number = Some (record { number = number; lifetime = lifetime })

abbrev pub count_of : List (List ℕ) → Ask
count_of flags =
    asks.Count (direction_of flags) (or_else_this 1 (flag_number (codes "D") flags)) (unless_zero (flag_number (codes "C") flags))
    (flag_lifetime (codes "T") flags) (initial_by (vivified flags) (or_else_this 0 (flag_number (codes "J") flags)))

-- what a meta command asks of its key
abbrev pub meta_ask : Verb → List (List ℕ) → List ℕ → Ask
meta_ask Get flags value = asks.Leased (lease_of flags)
meta_ask Store flags value = store_of flags value
meta_ask Delete flags value = delete_of flags
meta_ask Count flags value = count_of flags
meta_ask Debug flags value = asks.Get
