-- Powers of two, up to one of them.
use Rattle.std.proofs.Common.{◌≡◌, ℕ, ◌+◌, ◌*◌, ◌%◌, ◌^◌, ◌<◌, ◌≤◌, true, ap, ◌∙◌, arith, ⊎_elim, eq-eqb}
use Rattle.std.proofs.lemmas.Bool.{cases_lt}
use Rattle.std.proofs.lemmas.Nat.{ones_cat, pow_below}
use Rattle.std.proofs.Math.Nat.{pow-le-pow_right, one-le-pow}
use Rattle.std.specs.Int.{is_power_of_two}
use Rattle.std.specs.Int.RustNames.{count_ones}
use Rattle.mica_words.proofs.Buckets.{power_of_one_digit}
use borrow.Author.Tests.{eqb-true}

small_power : (most k : ℕ) → 2 ^ k ≤ 2 ^ most → k ≤ most
small_power most k le = ⊎_elim (λ more. let large = pow_below most k more in absurd (omega arith)) (λ less. omega arith) (cases_lt most k)

pub small_power_of_two : (most n : ℕ) → is_power_of_two n ≡ true → n ≤ 2 ^ most → (k : ℕ) × (k ≤ most) × (n ≡ 2 ^ k)
small_power_of_two most n power le = grind (arith, power_of_one_digit n n, eqb-true (count_ones n) 1 power, small_power most)

pub power_is_small : (most k : ℕ) → k ≤ most → (is_power_of_two (2 ^ k) ≡ true) × (2 ^ k ≤ 2 ^ most)
unfolding count_ones
power_is_small most k le = (eq-eqb (count_ones (2 ^ k)) 1 (ap count_ones (let one : 2 ^ k ≡ 1 * 2 ^ k + 0 = omega arith in one) ∙ ones_cat k 1 0 (one-le-pow k 2 (omega arith))), pow-le-pow_right {n = 2} (omega arith) {i = k} {j = most} le)

pub shifted_one : (k : ℕ) → k < 32 → 1 * 2 ^ k % 2 ^ 32 ≡ 2 ^ k
shifted_one k few = grind (arith, pow_below k 32 few)
