-- Powers of two, by the one binary digit that is set: the remainder by one is a mask.
use Rattle.std.proofs.Common.{◌≡◌, ℕ, zero, suc, ◌-◌, ◌/◌, ◌%◌, ◌≤◌, true, bit_and, arith, inl, inr}
use Rattle.std.proofs.lemmas.Bool.{cases_lt}
use Rattle.std.proofs.lemmas.Nat.{and_mask, zero_from_ones, ones_le_self}
use Rattle.std.proofs.Math.Nat.{pow-succ'}
use Rattle.std.specs.Int.{is_power_of_two, IsPowerOfTwo}
use Rattle.std.specs.Int.RustNames.{count_ones}
use Rattle.std.proofs.lemmas.Grind.{common_steps}
use lib.Count.{ones_step}
use borrow.Author.Tests.{eqb-true}

-- a number with one binary digit set is a power of two
pub power_of_one_digit : (d n : ℕ) → n ≤ d → count_ones n ≡ 1 → IsPowerOfTwo n
power_of_one_digit zero n few one = absurd (omega (arith, ones_le_self n))
power_of_one_digit (suc d) n few one =
    let step = ones_step n in
    elim (cases_lt 0 (n % 2)) [
      | inl odd ↦
          let none : n / 2 ≡ 0 = zero_from_ones (n / 2) (omega arith) in
          (0, omega arith)
      | inr even ↦
          let some = ones_le_self n in
          let half = power_of_one_digit d (n / 2) (omega arith) (omega arith) in
          (suc half.0, omega (arith, half.1, pow-succ' 2 half.0))
    ]

pub mask_is_remainder : (n m : ℕ) → is_power_of_two m ≡ true → bit_and n (m - 1) ≡ n % m
mask_is_remainder n m power =
    grind (arith, common_steps, power_of_one_digit m m (omega arith) (eqb-true (count_ones m) 1 power), eqb-true (count_ones m) 1 power, bit_and n, and_mask n)
