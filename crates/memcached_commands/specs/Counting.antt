-- Values that are numbers, and counting with them.
use Rattle.std.specs.Prelude.{ℕ, ◌+◌, ◌-◌, ◌%◌, ◌^◌, ◌==◌, ◌||◌, ◌&&◌, Bool, true, List, [], ◌∷◌, ◌++◌, length, replicate, nat_le, decimal, Option, None, if◌then◌else◌}
use Rattle.std.specs.Char.{is_ascii_digit}
use Rattle.memcached_text.specs.declared.command.Direction.{Direction}
use Rattle.memcached_text.specs.declared.command.Direction.TheVariants.{Up, Down}
use Rattle.memcached_text.specs.Numbers.{number_of}

-- the digits that a value begins with, and what stands behind them
abbrev pub digits_of : List ℕ → List ℕ
digits_of [] = []
digits_of (byte ∷ bytes) = if is_ascii_digit byte then byte ∷ digits_of bytes else []

abbrev pub after_digits : List ℕ → List ℕ
after_digits [] = []
after_digits (byte ∷ bytes) = if is_ascii_digit byte then after_digits bytes else byte ∷ bytes

-- a space, or one of the five control characters that are white, or a byte 0
abbrev pub ends_number : ℕ → Bool
ends_number byte = byte == 32 || (nat_le 9 byte && nat_le byte 13) || byte == 0

-- nothing comes, or something that ends a number
abbrev pub may_end : List ℕ → Bool
may_end [] = true
may_end (byte ∷ bytes) = ends_number byte

-- The number of a value, of 64 bits: its digits, up to the first byte that ends a number, whatever follows that one.
unfoldable pub number_in : List ℕ → Option ℕ
number_in value = if may_end (after_digits value) then number_of 18446744073709551615 (digits_of value) else None

-- up, around 2 ^ 64; and down, to 0 at the least
abbrev pub counted : Direction → ℕ → ℕ → ℕ
counted Up delta number = (number + delta) % 2 ^ 64
counted Down delta number = number - delta

-- a number as a value, with spaces behind it up to the length of the value before
abbrev pub padded : ℕ → ℕ → List ℕ
padded len number = decimal number ++ replicate (len - length (decimal number)) 32
