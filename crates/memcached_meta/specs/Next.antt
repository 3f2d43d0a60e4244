-- What a client's bytes begin with, where that is the line of a meta command.
use Rattle.std.specs.Prelude.{⊤, ℕ, ◌+◌, ◌==◌, ◌||◌, ◌&&◌, ◌<◌, ◌≤◌, not, Bool, true, false, List, [], ◌∷◌, length, nat_lt, codes, bytes_eq, Option, Some, None, option_map, option_and_then, if◌then◌else◌}
use Rattle.memcached_text.specs.declared.limits.TheConstants.{MAX_LINE_LEN, MAX_TEXT_LEN}
use Rattle.memcached_text.specs.declared.fault.Fault.TheVariants.{TooLarge, BadBlock}
use Rattle.memcached_text.specs.declared.block.Block.{Block}
use Rattle.memcached_text.specs.declared.block.Block.TheVariants as blocks
use Rattle.memcached_text.specs.Block.{block_at}
use Rattle.memcached_text.specs.Lines.{line_at, words_of, without_return}
use Rattle.memcached_commands.specs.Keys.{spelled}
use Rattle.memcached_meta.specs.declared.fault.MetaFault.{MetaFault}
use Rattle.memcached_meta.specs.declared.fault.MetaFault.TheVariants.{Line}
use Rattle.memcached_meta.specs.declared.line.Verb.{Verb}
use Rattle.memcached_meta.specs.declared.line.Meta.{Meta}
use Rattle.memcached_meta.specs.declared.line.MetaLine.{MetaLine}
use Rattle.memcached_meta.specs.declared.line.MetaLine.TheVariants as lines
use Rattle.memcached_meta.specs.declared.next.MetaNext.{MetaNext}
use Rattle.memcached_meta.specs.declared.next.MetaNext.TheVariants.{Whole, Dropped, More}
use Rattle.memcached_meta.specs.Flags.{argument_of, has_flag}
use Rattle.memcached_meta.specs.Lines.{verb_of, is_base64, line_of}

-- whether a store takes the place of whatever is there: it has no mode or that of a set, and no number
abbrev pub is_set_mode : Option (List ℕ) → Bool
is_set_mode None = true
is_set_mode (Some mode) = bytes_eq mode (codes "S")

abbrev pub replaces_all : List (List ℕ) → Bool
replaces_all flags = is_set_mode (argument_of (codes "M") flags) && not (has_flag (codes "C") flags)

-- the key whose item must not stay where the value is too large: that of a store which replaces all
abbrev pub stale_of : Meta → Option (List ℕ)
stale_of meta = if replaces_all meta.flags then Some (spelled (is_base64 meta.flags) meta.word) else None

-- a store, by its block, where both have so many bytes
abbrev pub blocked : Meta → ℕ → Block → MetaNext
blocked meta len blocks.Waiting = More
blocked meta len blocks.Bad = Dropped (Line BadBlock) None len
blocked meta len (blocks.Whole value) = Whole (record meta { value = value }) len

-- A store whose line has so many bytes, with those behind it. It is refused with its block where the value is too large.
unfoldable pub stored_at : Meta → ℕ → ℕ → List ℕ → MetaNext
stored_at meta value_len len rest =
    if nat_lt MAX_TEXT_LEN value_len then Dropped (Line TooLarge) (stale_of meta) (len + value_len + 2)
    else blocked meta (len + value_len + 2) (block_at value_len rest)

-- the bytes of a block whose value has so many bytes, where a line has a block
abbrev pub bytes_of_block : Option ℕ → ℕ
bytes_of_block None = 0
bytes_of_block (Some value_len) = value_len + 2

-- a line of so many bytes, with the bytes behind it
unfoldable pub line_next : MetaLine → ℕ → List ℕ → MetaNext
line_next (lines.Whole meta) len rest = Whole meta len
line_next (lines.Storing meta value_len) len rest = stored_at meta value_len len rest
line_next (lines.Refused fault block) len rest = Dropped fault None (len + bytes_of_block block)

-- a line of these words, where the first is a meta command's name
abbrev pub named_next : List (List ℕ) → ℕ → List ℕ → Option MetaNext
named_next [] len rest = None
named_next (name ∷ words) len rest = option_map (λ verb. line_next (line_of verb words) len rest) (verb_of name)

abbrev pub found_next : Option (List ℕ × List ℕ) → Option MetaNext
found_next None = None
found_next (Some found) =
    if nat_lt MAX_LINE_LEN (length found.0) then None
    else named_next (words_of (without_return found.0)) (length found.0 + 1) found.1

-- the line of a meta command begins with an `m`, or with spaces
abbrev pub begins_meta : List ℕ → Bool
begins_meta [] = false
begins_meta (b ∷ bytes) = b == 109 || b == 32

-- What bytes begin with; none where that is no line of a meta command, or none that has come. Those bytes are for memcached_text.
unfoldable pub next_meta : List ℕ → Option MetaNext
next_meta bytes = if begins_meta bytes then found_next (line_at bytes) else None

-- a command takes some bytes, all of which have come; of what is dropped, some have come
abbrev pub IsWithin : ℕ → MetaNext → Type 0
IsWithin come (Whole meta len) = (0 < len) × (len ≤ come)
IsWithin come (Dropped fault stale len) = 0 < len
IsWithin come More = ⊤
