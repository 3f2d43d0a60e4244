-- The flags of a meta command: words of a letter, with an argument behind it.
use Rattle.std.specs.Prelude.{ℕ, ◌||◌, ◌==◌, Bool, false, List, [], ◌∷◌, length, drop, nat_eq, nat_le, nat_lt, codes, Option, Some, None, is_some, option_and_then, if◌then◌else◌}
use Rattle.std.specs.List.{starts_with, list_any}
use Rattle.memcached_text.specs.declared.fault.Fault.TheVariants.{Format}
use Rattle.memcached_text.specs.declared.lifetime.Lifetime.{Lifetime}
use Rattle.memcached_text.specs.Lifetimes.{lifetime_of}
use Rattle.memcached_text.specs.Numbers.{number_of}
use Rattle.memcached_meta.specs.declared.flags.TheConstants.{MAX_OPAQUE_LEN}
use Rattle.memcached_meta.specs.declared.fault.MetaFault.{MetaFault}
use Rattle.memcached_meta.specs.declared.fault.MetaFault.TheVariants.{Line, FlagTwice, UnknownFlag, FlagFormat, InitialFormat, DeltaFormat, LongOpaque, LongMode}

-- whether a word is this flag
abbrev pub is_flag : List ℕ → List ℕ → Bool
is_flag letter word = starts_with nat_eq word letter

-- what stands behind the letter of this flag; none where it is not there
unfoldable pub argument_of : List ℕ → List (List ℕ) → Option (List ℕ)
argument_of letter [] = None
argument_of letter (word ∷ words) = if is_flag letter word then Some (drop 1 word) else argument_of letter words

abbrev pub has_flag : List ℕ → List (List ℕ) → Bool
has_flag letter words = is_some (argument_of letter words)

-- Faults

-- the flags that have no argument, or one of no effect
abbrev pub is_plain : List ℕ → Bool
is_plain word = list_any (λ letter. is_flag (letter ∷ []) word) (codes "bcfhklqstuvIPL")

abbrev pub unless_some : {A : Type 0} → MetaFault → Option A → Option MetaFault
unless_some fault None = Some fault
unless_some fault (Some a) = None

-- why a word is no flag; none where it is one
unfoldable pub fault_in : List ℕ → Option MetaFault
fault_in word =
    if is_plain word then None
    else (if is_flag (codes "O") word then (if nat_lt MAX_OPAQUE_LEN (length (drop 1 word)) then Some LongOpaque else None)
    else (if is_flag (codes "T") word || is_flag (codes "N") word || is_flag (codes "R") word then unless_some FlagFormat (lifetime_of (drop 1 word))
    else (if is_flag (codes "C") word then unless_some FlagFormat (number_of 18446744073709551615 (drop 1 word))
    else (if is_flag (codes "F") word then unless_some (Line Format) (number_of 4294967295 (drop 1 word))
    else (if is_flag (codes "J") word then unless_some InitialFormat (number_of 18446744073709551615 (drop 1 word))
    else (if is_flag (codes "D") word then unless_some DeltaFormat (number_of 18446744073709551615 (drop 1 word))
    else (if is_flag (codes "M") word then (if length word == 2 then None else Some LongMode)
    else Some UnknownFlag)))))))

-- the letter of a word, and a letter that no flag has where it is empty
abbrev pub letter_of : List ℕ → ℕ
letter_of [] = 127
letter_of (letter ∷ argument) = letter

abbrev pub or_else : {A : Type 0} → Option A → Option A → Option A
or_else (Some a) later = Some a
or_else None later = later

-- Why these words are no flags, behind others of these letters: the first that is none. Each flag stands once.
unfoldable pub fault_behind : List ℕ → List (List ℕ) → Option MetaFault
fault_behind letters [] = None
fault_behind letters (word ∷ words) =
    if nat_le 127 (letter_of word) || list_any (λ letter. letter == letter_of word) letters then Some FlagTwice
    else or_else (fault_in word) (fault_behind (letter_of word ∷ letters) words)

abbrev pub flags_fault : List (List ℕ) → Option MetaFault
flags_fault words = fault_behind [] words

-- What they say

-- the lifetime of a flag, where it is there
abbrev pub flag_lifetime : List ℕ → List (List ℕ) → Option Lifetime
flag_lifetime letter words = option_and_then lifetime_of (argument_of letter words)

abbrev pub flag_number : List ℕ → List (List ℕ) → Option ℕ
flag_number letter words = option_and_then (number_of 18446744073709551615) (argument_of letter words)

-- the number of a flag, of 32 bits
abbrev pub flag_short : List ℕ → List (List ℕ) → Option ℕ
flag_short letter words = option_and_then (number_of 4294967295) (argument_of letter words)

-- the last lifetime that an item is given by `T` or `N`, behind another
unfoldable pub last_lifetime : Option Lifetime → List (List ℕ) → Option Lifetime
last_lifetime last [] = last
last_lifetime last (word ∷ words) =
    last_lifetime (if is_flag (codes "T") word || is_flag (codes "N") word then lifetime_of (drop 1 word) else last) words

-- that of an item which is made where none is there
abbrev pub vivified : List (List ℕ) → Option Lifetime
vivified words = if has_flag (codes "N") words then last_lifetime None words else None

-- whether `R` stands behind `T`
unfoldable pub is_late : List (List ℕ) → Bool
is_late [] = false
is_late (word ∷ words) = if is_flag (codes "R") word then false else (if is_flag (codes "T") word then has_flag (codes "R") words else is_late words)
