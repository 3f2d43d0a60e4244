-- The opcodes of the binary protocol.
use Rattle.std.specs.Prelude.{ℕ, ◌==◌, ◌||◌, Bool, true, false, List, [], ◌∷◌, nat_lt, find, Option, option_map}
use Rattle.memcached_frames.specs.declared.opcode.Verb.{Verb}
use Rattle.memcached_frames.specs.declared.opcode.Verb.TheVariants.{Get, Set, Add, Replace, Delete, Up, Down, Quit, Flush, Noop, Version, Append, Prepend, Stat, Touch, GetTouch}
use Rattle.memcached_frames.specs.declared.opcode.Opcode.{Opcode}

-- one row: an opcode, and what it asks for
pub record Row : Type 0 where
  pub code : ℕ
  pub opcode : Opcode

-- told as it is asked for
abbrev pub plain : ℕ → Verb → Row
plain code verb = record { code = code; opcode = record { verb = verb; named = false; quiet = false } }

-- told where it does not go as it is asked for
abbrev pub quiet : ℕ → Verb → Row
quiet code verb = record { code = code; opcode = record { verb = verb; named = false; quiet = true } }

-- told with the key
abbrev pub named : ℕ → Verb → Row
named code verb = record { code = code; opcode = record { verb = verb; named = true; quiet = false } }

-- both
abbrev pub quiet_named : ℕ → Verb → Row
quiet_named code verb = record { code = code; opcode = record { verb = verb; named = true; quiet = true } }

-- All that are carried out. The verbosity (27), the three of SASL (32 to 34) and whatever else are not.
abbrev pub opcodes : List Row
opcodes =
    plain 0 Get ∷ plain 1 Set ∷ plain 2 Add ∷ plain 3 Replace ∷ plain 4 Delete ∷ plain 5 Up ∷ plain 6 Down ∷ plain 7 Quit ∷ plain 8 Flush
    ∷ quiet 9 Get ∷ plain 10 Noop ∷ plain 11 Version ∷ named 12 Get ∷ quiet_named 13 Get ∷ plain 14 Append ∷ plain 15 Prepend ∷ plain 16 Stat
    ∷ quiet 17 Set ∷ quiet 18 Add ∷ quiet 19 Replace ∷ quiet 20 Delete ∷ quiet 21 Up ∷ quiet 22 Down ∷ quiet 23 Quit ∷ quiet 24 Flush
    ∷ quiet 25 Append ∷ quiet 26 Prepend ∷ plain 28 Touch ∷ plain 29 GetTouch ∷ quiet 30 GetTouch ∷ named 35 GetTouch ∷ quiet_named 36 GetTouch
    ∷ []

-- what an opcode asks for, where it is one of these
unfoldable pub opcode_of : ℕ → Option Opcode
opcode_of code = option_map (λ (row : Row). row.opcode) (find (λ row. row.code == code) opcodes)

-- how long the extras of a verb may be
abbrev pub fits_extras : Verb → ℕ → Bool
fits_extras Set len = len == 8
fits_extras Add len = len == 8
fits_extras Replace len = len == 8
fits_extras Up len = len == 20
fits_extras Down len = len == 20
fits_extras Touch len = len == 4
fits_extras GetTouch len = len == 4
fits_extras Flush len = len == 0 || len == 4
fits_extras _ len = len == 0

-- how long its key: that of a stat may stand there
abbrev pub fits_key : Verb → ℕ → Bool
fits_key Quit len = len == 0
fits_key Flush len = len == 0
fits_key Noop len = len == 0
fits_key Version len = len == 0
fits_key Stat len = true
fits_key _ len = nat_lt 0 len

-- whether it has a value
abbrev pub has_value : Verb → Bool
has_value Set = true
has_value Add = true
has_value Replace = true
has_value Append = true
has_value Prepend = true
has_value _ = false
