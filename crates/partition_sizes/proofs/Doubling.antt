-- The first of a number and its doubles that is at least another.
use Rattle.std.proofs.Common.{◌≡◌, ℕ, zero, suc, ◌+◌, ◌*◌, ◌/◌, ◌^◌, ◌<◌, ◌≤◌, max, true, false, nat_le, if◌then◌else◌, refl, ap, sym, ◌∙◌, subst, arith, pow-suc}
use Rattle.std.proofs.Math.Pow.{pow_mono}
use Rattle.std.proofs.Math.Nat.{one-le-pow}
use Rattle.std.proofs.lemmas.Bool.{leb-true, leb-false}
use Rattle.partition_sizes.specs.Sizes.{doubled_to}

doubled : (j : ℕ) → 2 * 2 ^ j ≡ 2 ^ suc j
doubled j = omega (arith, pow-suc 2 j)

-- of a power of two it is one, after as many doublings at most
pub power_of_doubles : (more j least : ℕ) → (k : ℕ) × (k ≤ j + more) × (doubled_to more (2 ^ j) least ≡ 2 ^ k)
unfolding doubled_to
power_of_doubles zero j least = (j, omega arith, refl)
power_of_doubles (suc more) j least = elim (nat_le least (2 ^ j)) as (λ b. (k : ℕ) × (k ≤ j + suc more) × ((if b then 2 ^ j else doubled_to more (2 * 2 ^ j) least) ≡ 2 ^ k)) [
  | true ↦ (j, omega arith, refl)
  | false ↦ let rest = power_of_doubles more (suc j) least in (rest.0, omega (arith, rest.1), ap (λ n. doubled_to more n least) (doubled j) ∙ rest.2)
]

-- it is not twice as large as it need be
pub least_of_doubles : (more number least : ℕ) → doubled_to more number least ≤ max number (2 * least)
unfolding doubled_to
least_of_doubles zero number least = omega arith
least_of_doubles (suc more) number least =
    elim (nat_le least number) as (λ b. nat_le least number ≡ b → (if b then number else doubled_to more (2 * number) least) ≤ max number (2 * least)) [
      | true ↦ λ _. omega arith
      | false ↦ λ is. let below = leb-false least number is in let rest = least_of_doubles more (2 * number) least in omega arith
    ] refl

-- it is enough, where so many doublings are
pub enough_doubles : (more number least : ℕ) → least ≤ number * 2 ^ more → least ≤ doubled_to more number least
unfolding doubled_to
enough_doubles zero number least most = omega arith
enough_doubles (suc more) number least most =
    elim (nat_le least number) as (λ b. nat_le least number ≡ b → least ≤ (if b then number else doubled_to more (2 * number) least)) [
      | true ↦ λ is. leb-true least number is
      | false ↦ λ _. let most' = subst (λ n. least ≤ number * n) (sym (doubled more)) most in enough_doubles more (2 * number) least (omega arith)
    ] refl

-- the power that is the first is at least another
reached : (j k least : ℕ) → j ≤ k → least ≤ 2 ^ j → 2 ^ k / 2 < max 1 least → k ≡ j
reached j k least low enough down = elim (nat_le k j) as (λ b. nat_le k j ≡ b → k ≡ j) [
  | true ↦ λ is. let h = leb-true k j is in omega arith
  | false ↦ λ is. let above = leb-false k j is in let more : 2 ^ suc j ≤ 2 ^ k = pow_mono {i = suc j} {j = k} (omega arith) in let some = one-le-pow j 2 (omega arith) in absurd (omega (arith, doubled j))
] refl

not_reached : (j k least : ℕ) → j ≤ k → 2 ^ j < least → least ≤ 2 ^ k → j < k
not_reached j k least low short enough = elim (nat_le k j) as (λ b. nat_le k j ≡ b → j < k) [
  | true ↦ λ is. let h = leb-true k j is in let less : 2 ^ k ≤ 2 ^ j = pow_mono {i = k} {j = j} h in absurd (omega arith)
  | false ↦ λ is. leb-false k j is
] refl

-- the next power of two is the first of them
pub next_of_doubles : (more j k least : ℕ) → j ≤ k → k ≤ j + more → least ≤ 2 ^ k → 2 ^ k / 2 < max 1 least → doubled_to more (2 ^ j) least ≡ 2 ^ k
unfolding doubled_to
next_of_doubles zero j k least low high enough down = ap (λ i. 2 ^ i) (let same : j ≡ k = omega arith in same)
next_of_doubles (suc more) j k least low high enough down =
    elim (nat_le least (2 ^ j)) as (λ b. nat_le least (2 ^ j) ≡ b → (if b then 2 ^ j else doubled_to more (2 * 2 ^ j) least) ≡ 2 ^ k) [
      | true ↦ λ is. ap (λ i. 2 ^ i) (sym (reached j k least low (leb-true least (2 ^ j) is) down))
      | false ↦ λ is.
          let above = not_reached j k least low (leb-false least (2 ^ j) is) enough in
          ap (λ n. doubled_to more n least) (doubled j) ∙ next_of_doubles more (suc j) k least (omega arith) (omega arith) enough down
    ] refl

-- a power of two that is no more than another has no larger exponent
pub next_exponent : (most k least : ℕ) → least ≤ 2 ^ most → 2 ^ k / 2 < max 1 least → k ≤ most
next_exponent most k least low down = elim (nat_le k most) as (λ b. nat_le k most ≡ b → k ≤ most) [
  | true ↦ λ is. leb-true k most is
  | false ↦ λ is. let above = leb-false k most is in let more : 2 ^ suc most ≤ 2 ^ k = pow_mono {i = suc most} {j = k} (omega arith) in let some = one-le-pow most 2 (omega arith) in absurd (omega (arith, doubled most))
] refl
