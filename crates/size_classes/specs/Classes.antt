-- The class of a size, in words.
use Rattle.std.specs.Prelude.{ℕ, ◌+◌, ◌-◌, ◌*◌, ◌/◌, ◌%◌, ◌^◌, min, nat_lt, if◌then◌else◌}
use Rattle.std.specs.Int.{w32, leading_zeros, bit_at}

-- the place of the highest one bit
abbrev pub highest_bit : ℕ → ℕ
highest_bit words = 31 - leading_zeros w32 words

-- Each size below 32 has a class of its own. From 32 on a class has the sizes with one highest bit and one
-- bit below it, and the last class has all sizes from 2,097,152 on.
abbrev pub class_of : ℕ → ℕ
class_of words =
    if nat_lt words 32 then words - 1
    else min 63 (31 + 2 * (highest_bit words - 5) + bit_at words (highest_bit words - 1))

-- From 1,024 on a fine class has the sizes with one highest bit and the same three bits below it. The last class has all sizes from
-- 262,144 on.
abbrev pub fine_class_of : ℕ → ℕ
fine_class_of words = min 64 (8 * (highest_bit words - 10) + words / 2 ^ (highest_bit words - 3) % 8)
