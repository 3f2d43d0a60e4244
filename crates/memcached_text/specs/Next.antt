-- What a client's bytes begin with.
use Rattle.std.specs.Prelude.{◌≡◌, ℕ, ◌==◌, ◌+◌, ◌<◌, ◌≤◌, ⊤, Bool, false, List, [], ◌∷◌, length, nat_lt, Option, Some, None, ◌||◌, nat_eq, codes, if◌then◌else◌}
use Rattle.std.specs.List.{starts_with}
use Rattle.memcached_text.specs.declared.limits.TheConstants.{MAX_TEXT_LEN, MAX_LINE_LEN, MAX_GET_LINE_LEN}
use Rattle.memcached_text.specs.declared.fault.Fault.TheVariants.{TooLarge, BadBlock}
use Rattle.memcached_text.specs.declared.command.Command.TheVariants as commands
use Rattle.memcached_text.specs.declared.storage_line.ItemLine.{ItemLine}
use Rattle.memcached_text.specs.declared.line.Line.{Line}
use Rattle.memcached_text.specs.declared.line.Line.TheVariants as lines
use Rattle.memcached_text.specs.declared.block.TheConstants.{END_LEN}
use Rattle.memcached_text.specs.declared.block.Block.{Block}
use Rattle.memcached_text.specs.declared.block.Block.TheVariants as blocks
use Rattle.memcached_text.specs.declared.next.TheConstants.{BINARY}
use Rattle.memcached_text.specs.declared.next.Next.{Next}
use Rattle.memcached_text.specs.declared.next.Next.TheVariants.{Command, Refused, More, LongLine}
use Rattle.memcached_text.specs.Lines.{line_at, words_of, without_return}
use Rattle.memcached_text.specs.StorageLine.{command_of, stale_of}
use Rattle.memcached_text.specs.Forms.{line_of}
use Rattle.memcached_text.specs.Block.{block_at}

-- a line that stores an item, where it and its block have so many bytes
abbrev pub blocked : ItemLine → Bool → ℕ → Block → Next
blocked item quiet len blocks.Waiting = More
blocked item quiet len blocks.Bad = Refused BadBlock None quiet len
blocked item quiet len (blocks.Whole value) = Command (command_of item value quiet) len

-- A line of so many bytes that stores an item, with the bytes behind it. It is refused with its block where the value is
-- too large.
unfoldable pub storing_at : ItemLine → ℕ → Bool → ℕ → List ℕ → Next
storing_at item value_len quiet len rest =
    if nat_lt MAX_TEXT_LEN value_len then Refused TooLarge (stale_of item) quiet (len + value_len + END_LEN)
    else blocked item quiet (len + value_len + END_LEN) (block_at value_len rest)

-- the bytes of a block whose value has so many bytes, where a line has a block
abbrev pub bytes_of_block : Option ℕ → ℕ
bytes_of_block None = 0
bytes_of_block (Some value_len) = value_len + END_LEN

-- a line of so many bytes, with the bytes behind it
unfoldable pub says_at : Line → ℕ → List ℕ → Next
says_at (lines.Whole command) len rest = Command command len
says_at (lines.Storing item value_len quiet) len rest = storing_at item value_len quiet len rest
says_at (lines.Refused fault quiet block) len rest = Refused fault None quiet (len + bytes_of_block block)

-- they begin as the line of a get
unfoldable pub is_get : List ℕ → Bool
is_get bytes = starts_with nat_eq bytes (codes "get ") || starts_with nat_eq bytes (codes "gets ")

-- how long a line may be that begins so
unfoldable pub most_line : List ℕ → ℕ
most_line bytes = if is_get bytes then MAX_GET_LINE_LEN else MAX_LINE_LEN

-- the bytes, which begin with this line and have others behind its line feed, or have no line feed
unfoldable pub next_in : List ℕ → Option (List ℕ × List ℕ) → Next
next_in bytes None = if nat_lt (most_line bytes) (length bytes) then LongLine else More
next_in bytes (Some found) =
    if nat_lt (most_line found.0) (length found.0) then LongLine
    else says_at (line_of (words_of (without_return found.0))) (length found.0 + 1) found.1

-- a request of the binary protocol, with which no command begins
abbrev pub is_binary : List ℕ → Bool
is_binary [] = false
is_binary (b ∷ bs) = b == BINARY

-- what the bytes begin with
unfoldable pub next_of : List ℕ → Next
next_of bytes = if is_binary bytes then Command commands.Quit 1 else next_in bytes (line_at bytes)

-- a command takes some bytes, all of which have come; of what is refused, some have come
abbrev pub IsWithin : ℕ → Next → Type 0
IsWithin come (Command command len) = (0 < len) × (len ≤ come)
IsWithin come (Refused fault stale quiet len) = 0 < len
IsWithin come More = ⊤
IsWithin come LongLine = MAX_LINE_LEN < come

-- a client of the binary protocol is not kept waiting: its connection ends
abbrev pub EndsBinary : Type 0
EndsBinary = (more : List ℕ) → next_of (BINARY ∷ more) ≡ Command commands.Quit 1
