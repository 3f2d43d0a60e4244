-- Which commands and refusals want no reply.
use Rattle.std.specs.Prelude.{◌≡◌, ⊤, ℕ, ◌≤◌, Bool, false, List, [], ◌∷◌, ◌++◌, length, drop, codes, bytes_eq, if◌then◌else◌}
use Rattle.std.specs.List.{list_any}
use Rattle.memcached_text.specs.declared.fault.Fault.TheVariants.{Unknown}
use Rattle.memcached_text.specs.declared.command.Command.{Command}
use Rattle.memcached_text.specs.declared.command.Command.TheVariants.{Store, Join, Count, Delete, Touch, Flush, Verbosity, Quit}
use Rattle.memcached_text.specs.declared.next.Next.{Next}
use Rattle.memcached_text.specs.declared.next.Next.TheVariants as nexts
use Rattle.memcached_text.specs.Lines.{Lacks, words_of, without_return}
use Rattle.memcached_text.specs.Line.{is_noreply}
use Rattle.memcached_text.specs.Next.{most_line, next_of}

-- whether a command wants no reply
abbrev pub is_quiet : Command → Bool
is_quiet (Store wants key flags lifetime value quiet) = quiet
is_quiet (Join side key value quiet) = quiet
is_quiet (Count direction key delta quiet) = quiet
is_quiet (Delete key quiet) = quiet
is_quiet (Touch key lifetime quiet) = quiet
is_quiet (Flush due quiet) = quiet
is_quiet (Verbosity quiet) = quiet
is_quiet _ = false

-- the commands of one key that may want no reply
abbrev pub keyed_names : List (List ℕ)
keyed_names =
    codes "set" ∷ codes "add" ∷ codes "replace" ∷ codes "append" ∷ codes "prepend" ∷ codes "cas" ∷ codes "incr"
    ∷ codes "decr" ∷ codes "delete" ∷ codes "touch" ∷ []

-- and those of no key
abbrev pub other_names : List (List ℕ)
other_names = codes "flush_all" ∷ codes "verbosity" ∷ []

-- The words of a command's line of which the last may ask for no reply: those behind its key, or behind its name where it
-- has no key.
abbrev pub asking_words : List ℕ → List (List ℕ) → List (List ℕ)
asking_words name words =
    if list_any (λ other. bytes_eq name other) keyed_names then drop 1 words
    else (if list_any (λ other. bytes_eq name other) other_names then words else [])

-- whether the last of these words asks for no reply
unfoldable pub ends_quietly : List (List ℕ) → Bool
ends_quietly [] = false
ends_quietly (word ∷ []) = is_noreply word
ends_quietly (word ∷ next ∷ words) = ends_quietly (next ∷ words)

-- What is read is quiet just where that is asked for. What is no command never is, and a quit has no reply.
abbrev pub IsQuietAs : Bool → Next → Type 0
IsQuietAs asked (nexts.Command Quit len) = ⊤
IsQuietAs asked (nexts.Command command len) = is_quiet command ≡ asked
IsQuietAs asked (nexts.Refused Unknown stale quiet len) = quiet ≡ false
IsQuietAs asked (nexts.Refused fault stale quiet len) = quiet ≡ asked
IsQuietAs asked _ = ⊤

-- The bytes of a line are quiet just where its last word says so. So a client never takes one reply for another's.
abbrev pub IsQuiet : Type 0
IsQuiet = (line rest name : List ℕ) (words : List (List ℕ)) → Lacks 10 line → length line ≤ most_line line
    → words_of (without_return line) ≡ name ∷ words → IsQuietAs (ends_quietly (asking_words name words)) (next_of (line ++ 10 ∷ rest))
