-- What a client's bytes spell, one after another.
use Rattle.std.specs.Prelude.{◌≡◌, ◌≢◌, ⊤, ℕ, Bool, true, false, List, [], ◌∷◌, ◌++◌, drop}
use Rattle.memcached_text.specs.declared.command.Command.TheVariants.{Quit}
use Rattle.memcached_text.specs.declared.next.Next.{Next}
use Rattle.memcached_text.specs.declared.next.Next.TheVariants.{Command, Refused, More, LongLine}
use Rattle.memcached_text.specs.Next.{next_of}

-- the bytes that a command takes, or that are dropped
abbrev pub len_of : Next → ℕ
len_of (Command command len) = len
len_of (Refused fault stale quiet len) = len
len_of _ = 0

-- what ends a connection, so that nothing behind it is read
abbrev pub is_last : Next → Bool
is_last (Command Quit len) = true
is_last LongLine = true
is_last _ = false

-- what stands behind something: nothing, where that is the last, and else what is said here
abbrev pub Behind : Bool → List Next → Type 0 → Type 0
Behind true nexts later = nexts ≡ []
Behind false nexts later = later

-- The bytes begin with these, one after another, and with nothing behind what ends the connection. Of what is dropped
-- last, some may not have come.
abbrev pub BeginsWith : List ℕ → List Next → Type 0
BeginsWith bytes [] = ⊤
BeginsWith bytes (next ∷ nexts) =
    (next ≢ More) × (next_of bytes ≡ next) × Behind (is_last next) nexts (BeginsWith (drop (len_of next) bytes) nexts)

-- What bytes begin with, they begin with whatever follows. So it does not matter in which pieces they come.
abbrev pub GoesOn : Type 0
GoesOn = (bytes more : List ℕ) (nexts : List Next) → BeginsWith bytes nexts → BeginsWith (bytes ++ more) nexts
