-- A connection keeps its place: the bytes of a value are never taken for a command where its line tells their length.
use Rattle.std.specs.Prelude.{◌≡◌, ℕ, ◌+◌, ◌<◌, ◌≤◌, Bool, List, [], ◌∷◌, ◌++◌, length, codes, Some}
use Rattle.std.specs.List.{AllByRecursion}
use Rattle.memcached_text.specs.declared.block.TheConstants.{END_LEN}
use Rattle.memcached_text.specs.declared.next.Next.{Next}
use Rattle.memcached_text.specs.declared.next.Next.TheVariants.{Command, Refused, More, LongLine}
use Rattle.memcached_text.specs.Lines.{Lacks, words_of, without_return}
use Rattle.memcached_text.specs.Line.{quiet_tail}
use Rattle.memcached_text.specs.StorageLine.{block_len}
use Rattle.memcached_text.specs.Next.{most_line, next_of}

-- what takes or drops just so many bytes, or waits where they have not all come
abbrev pub Takes : ℕ → ℕ → Next → Type 0
Takes len come (Command command taken) = taken ≡ len
Takes len come (Refused fault stale quiet dropped) = dropped ≡ len
Takes len come More = come < len
Takes len come LongLine = ⊥

-- Bytes that begin with a line of these words, which tells the length of a value: the line and the block are taken together,
-- whatever else is right or wrong with them, and as soon as they have come.
abbrev pub TakesBlock : List (List ℕ) → List ℕ → List ℕ → List (List ℕ) → Type 0
TakesBlock words len last tail =
    (line rest : List ℕ) (value_len : ℕ) (quiet : Bool) → Lacks 10 line → length line ≤ most_line line
    → words_of (without_return line) ≡ words → block_len len ≡ Some value_len → quiet_tail last tail ≡ Some quiet
    → Takes (length line + 1 + value_len + END_LEN) (length (line ++ 10 ∷ rest)) (next_of (line ++ 10 ∷ rest))

-- the commands whose line tells a key, flags, an expiry time and a length
abbrev pub storage_names : List (List ℕ)
storage_names = codes "set" ∷ codes "add" ∷ codes "replace" ∷ codes "append" ∷ codes "prepend" ∷ []

-- Each of these, and `cas`, whose line has a unique number behind the length. What the words of a line are, and which of
-- them tells a length, `words_of`, `quiet_tail` and `block_len` say.
pub record KeepsPlace : Type 0 where
  pub storage : AllByRecursion (λ name. (key flags expiry len : List ℕ) (tail : List (List ℕ)) → TakesBlock (name ∷ key ∷ flags ∷ expiry ∷ len ∷ tail) len len tail) storage_names
  pub cas : (key flags expiry len unique : List ℕ) (tail : List (List ℕ)) → TakesBlock (codes "cas" ∷ key ∷ flags ∷ expiry ∷ len ∷ unique ∷ tail) len unique tail
