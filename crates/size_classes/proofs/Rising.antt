-- The class of a size never falls.
use Rattle.std.proofs.Common.{◌≡◌, ℕ, ◌+◌, ◌-◌, ◌*◌, ◌/◌, ◌%◌, ◌^◌, ◌<◌, ◌≤◌, min, refl, arith, rules}
use Rattle.std.specs.Int.{bit_at}
use Rattle.std.proofs.Math.Pow.{pow_mono, shr_mono}
use Rattle.std.proofs.Math.Nat.{div-mul-le_self, lt_of_mul-lt-mul_right}
use Rattle.std.proofs.lemmas.Nat.{leading_top, pow_pos, le-div, pow-add}
use Rattle.std.proofs.lemmas.Nat.Bits.{bit_at-lt}
use Rattle.std.proofs.lemmas.Bool.{le-ltb, lt-ltb}
use Rattle.size_classes.specs.Classes.{highest_bit, class_of, fine_class_of}

abbrev large : ℕ → ℕ
large words = 31 + 2 * (highest_bit words - 5) + bit_at words (highest_bit words - 1)

pub class_small : (words : ℕ) → words < 32 → class_of words ≡ words - 1
class_small words small = rw (lt-ltb words 32 small) refl

pub class_large : (words : ℕ) → 32 ≤ words → class_of words ≡ min 63 (large words)
class_large words least = rw (le-ltb words 32 least) refl

-- a number lies between two powers
record Between (words : ℕ) : Type 0 where
  low : 2 ^ highest_bit words ≤ words
  high : words < 2 ^ (highest_bit words + 1)

between : (words : ℕ) → 1 ≤ words → words < 2 ^ 32 → Between words
between words some limit = grind (arith, leading_top 32 words)

-- from 32 on the highest bit has five below it, and with the next one makes 2 or 3
record Halves (words : ℕ) : Type 0 where
  five : 5 ≤ highest_bit words
  bits : bit_at words (highest_bit words - 1) + 2 ≡ words / 2 ^ (highest_bit words - 1)

below_power : (a b words : ℕ) → 2 ^ a ≤ words → words < 2 ^ b → a < b
below_power a b words low high = grind (arith, pow_mono)

halves : (words : ℕ) → 32 ≤ words → words < 2 ^ 32 → Halves words
halves words least limit =
    let h = between words (omega arith) limit in
    let k = highest_bit words - 1 in
    grind (
      arith,
      below_power 5 (highest_bit words + 1) words,
      h.low,
      h.high,
      pow-add 2 k 1,
      pow-add 2 k 2,
      le-div 2 words (2 ^ k) (pow_pos k),
      lt_of_mul-lt-mul_right (2 ^ k),
      div-mul-le_self words (2 ^ k),
    )

pub five_bits : (words : ℕ) → 32 ≤ words → words < 2 ^ 32 → 5 ≤ highest_bit words
five_bits words least limit = (halves words least limit).five

-- a larger number has no lower highest bit
highest_rises : (a b : ℕ) → 32 ≤ a → a ≤ b → b < 2 ^ 32 → highest_bit a ≤ highest_bit b
highest_rises a b least le limit = grind (arith, below_power (highest_bit a) (highest_bit b + 1) b, between a, between b)

large_rises : (a b : ℕ) → 32 ≤ a → a ≤ b → b < 2 ^ 32 → large a ≤ large b
large_rises a b least le limit = search (rules, halves, bit_at-lt, highest_rises, shr_mono, bit_at)

pub rises : (a b : ℕ) → 1 ≤ a → a ≤ b → b < 2 ^ 32 → class_of a ≤ class_of b
rises a b some le limit = grind (arith, class_small a, class_small b, class_large b, class_large a, large_rises a b)

-- from 1,024 on the highest bit has ten below it, and with the next three makes 8 to 15
record Eighths (words : ℕ) : Type 0 where
  ten : 10 ≤ highest_bit words
  bits : words / 2 ^ (highest_bit words - 3) % 8 + 8 ≡ words / 2 ^ (highest_bit words - 3)

eighths : (words : ℕ) → 1024 ≤ words → words < 2 ^ 32 → Eighths words
eighths words least limit =
    let h = between words (omega arith) limit in
    let k = highest_bit words - 3 in
    grind (
      arith,
      below_power 10 (highest_bit words + 1) words,
      h.low,
      h.high,
      pow-add 2 k 3,
      pow-add 2 k 4,
      le-div 8 words (2 ^ k) (pow_pos k),
      lt_of_mul-lt-mul_right (2 ^ k),
      div-mul-le_self words (2 ^ k),
    )

pub ten_bits : (words : ℕ) → 1024 ≤ words → words < 2 ^ 32 → 10 ≤ highest_bit words
ten_bits words least limit = (eighths words least limit).ten

pub fine_rises : (a b : ℕ) → 1024 ≤ a → a ≤ b → b < 2 ^ 32 → fine_class_of a ≤ fine_class_of b
fine_rises a b least le limit = search (rules, eighths, highest_rises, shr_mono)
