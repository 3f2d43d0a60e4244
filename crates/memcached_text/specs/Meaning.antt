-- What a line means is decided by its words, and the words of a line by its spaces.
use Rattle.std.specs.Prelude.{◌≡◌, ℕ, ◌+◌, ◌<◌, ◌≤◌, false, List, [], ◌∷◌, ◌++◌, length}
use Rattle.memcached_text.specs.declared.next.Next.{Next}
use Rattle.memcached_text.specs.declared.next.Next.TheVariants.{Command, Refused, More, LongLine}
use Rattle.memcached_text.specs.Lines.{Lacks, words_of, without_return}
use Rattle.memcached_text.specs.Next.{is_binary, most_line, next_of}

-- spaces part words, and are nothing else
pub record SplitsAtSpaces : Type 0 where
  pub none : words_of [] ≡ []
  pub space : (rest : List ℕ) → words_of (32 ∷ rest) ≡ words_of rest
  pub word : (word rest : List ℕ) → 0 < length word → Lacks 32 word → words_of (word ++ 32 ∷ rest) ≡ word ∷ words_of rest
  pub last : (word : List ℕ) → 0 < length word → Lacks 32 word → words_of word ≡ word ∷ []

-- what was found, with so many bytes more
abbrev pub longer : ℕ → Next → Next
longer more (Command command len) = Command command (len + more)
longer more (Refused fault stale quiet len) = Refused fault stale quiet (len + more)
longer more More = More
longer more LongLine = LongLine

-- Lines of the same words mean the same, whatever spaces they have and whether a carriage return ends them; but one that
-- begins as a request of the binary protocol.
abbrev pub IsOneMeaning : Type 0
IsOneMeaning = (a b rest : List ℕ) → Lacks 10 a → Lacks 10 b → length a ≤ most_line a → length b ≤ most_line b
    → is_binary a ≡ false → is_binary b ≡ false → words_of (without_return a) ≡ words_of (without_return b)
    → longer (length b) (next_of (a ++ 10 ∷ rest)) ≡ longer (length a) (next_of (b ++ 10 ∷ rest))
