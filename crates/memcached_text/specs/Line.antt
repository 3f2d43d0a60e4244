-- What lines have in common: how one is refused, and how its last word asks for no reply.
use Rattle.std.specs.Prelude.{ℕ, ◌&&◌, Bool, List, [], ◌∷◌, length, nat_le, codes, bytes_eq, Option, Some, None}
use Rattle.memcached_text.specs.declared.limits.TheConstants.{MAX_KEY_LEN}
use Rattle.memcached_text.specs.declared.fault.Fault.{Fault}
use Rattle.memcached_text.specs.declared.line.Line.{Line}
use Rattle.memcached_text.specs.declared.line.Line.TheVariants.{Refused}
use Rattle.memcached_text.specs.Lines.{lacks}

-- a word that is no longer than a key may be
abbrev pub is_short : List ℕ → Bool
is_short word = nat_le (length word) MAX_KEY_LEN

-- A word that may be a key. A byte 0 would end it for memcached, and for clients in C. One of a line has a byte, and no space or
-- line feed.
abbrev pub is_key : List ℕ → Bool
is_key word = is_short word && lacks 0 word

-- a line that is refused, and has no block
abbrev pub refused : Fault → Bool → Line
refused fault quiet = Refused fault quiet None

-- a line that is refused with its block, whose value has so many bytes
abbrev pub refused_with : Fault → Bool → ℕ → Line
refused_with fault quiet len = Refused fault quiet (Some len)

-- the word that asks for no reply
abbrev pub is_noreply : List ℕ → Bool
is_noreply word = bytes_eq word (codes "noreply")

-- Whether a line wants no reply: its last word asks for none. The last words are one that must stand there, and at
-- most one behind it. None where more do.
unfoldable pub quiet_tail : List ℕ → List (List ℕ) → Option Bool
quiet_tail word [] = Some (is_noreply word)
quiet_tail word (last ∷ []) = Some (is_noreply last)
quiet_tail word (_ ∷ _ ∷ _) = None
