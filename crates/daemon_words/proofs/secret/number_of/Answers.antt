use Rattle.std.proofs.Common.{ℕ, ◌+◌, ◌*◌, ◌<◌, ◌≤◌, ◌^◌, suc, sym, ◌∙◌, get_or, arith}
use Rattle.std.proofs.Math.Nat.{pow-suc, pow-le-pow_right}
use Rattle.daemon_words.proofs.SecretLemmas.{digit_below}
use Rattle.daemon_words.proofs.secret.number_of.Goals as goal

-- so many digits write a number that a word holds
within : (number i : ℕ) → number < 16 ^ i → i < 16 → number * 16 + 16 ≤ 18446744073709551616
within number i below low =
    let more : 16 ^ suc i ≤ 16 ^ 16 = pow-le-pow_right {n = 16} (omega arith) {i = suc i} {j = 16} (omega arith) in
    omega (arith, pow-suc 16 i, more)

pub overflow_mul-number : goal.overflow_mul-number
overflow_mul-number c = omega (arith, within c.loop-byte.number c.loop-byte.byte-index c.loop-byte.invariant.below (omega arith))

pub overflow_add-number : goal.overflow_add-number
overflow_add-number c =
    let digit = digit_below (get_or c.args.digits.now c.loop-byte.byte-index 0) c.in_ok-number.field-0 (sym c.digit_of.ensures ∙ c.in_ok-number.was) in
    omega (arith, digit, within c.loop-byte.number c.loop-byte.byte-index c.loop-byte.invariant.below (omega arith))
