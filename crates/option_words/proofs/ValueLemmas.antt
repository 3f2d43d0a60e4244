-- The values of options, and in which ranges they lie.
use Rattle.std.proofs.Common.{◌≡◌, ℕ, ◌^◌, ◌≤◌, Option, Some, None, Bool, true, false, true≢false, nat_le, ◌&&◌, ap, sym, refl, ◌∙◌, subst, unwrap_or, if◌then◌else◌, arith}
use lib.Count.{ones}
use Rattle.std.proofs.lemmas.Bool.{leb-true}
use Rattle.std.proofs.lemmas.Option.{none-some}
use Rattle.std.specs.Int.{is_power_of_two}
use Rattle.std.specs.Str.Parse.{digits_value}
use Rattle.std.proofs.lemmas.Grind.{common_steps}
use Rattle.partition_model.specs.Options.{InRange, IsPowerUpTo}
use Rattle.partition_model.proofs.PowersOfTwo.{small_power_of_two}
use Rattle.option_words.specs.Words.{Text}
use Rattle.option_words.specs.Settings.{number, power_of_two, required_number, number_of, is_number, value_by, ◌>>=◌}

same_number : (a b : ℕ) → Some a ≡ Some b → a ≡ b
same_number a b e = ap (λ o. unwrap_or o 0) e

pub no_power : (name : Text) (most default : ℕ) (given : Option Text) (n : ℕ) → is_power_of_two default ≡ true → value_by (number name 1 most default) given ≡ Some n → is_power_of_two n ≡ false
    → value_by (power_of_two name most default) given ≡ None
no_power name most default None n power is none = absurd (true≢false (sym power ∙ subst (λ m. is_power_of_two m ≡ false) (sym (same_number default n is)) none))
no_power name most default (Some text) n power is none = rw is (rw none refl)

pub number_bounds : (least most : ℕ) (t : Text) (n : ℕ) → number_of least most t ≡ Some n → InRange least most n
number_bounds least most t n e =
    elim (is_number t) as (λ p. (if p && (nat_le least (digits_value 10 t) && nat_le (digits_value 10 t) most) then Some (digits_value 10 t) else None) ≡ Some n → InRange least most n) [
      | true ↦ bounds (nat_le least (digits_value 10 t)) (nat_le (digits_value 10 t) most) refl refl
      | false ↦ λ none. absurd (none-some n none)
    ] e
  where
    bounds : (low high : Bool) → nat_le least (digits_value 10 t) ≡ low → nat_le (digits_value 10 t) most ≡ high → (if low && high then Some (digits_value 10 t) else None) ≡ Some n → InRange least most n
    bounds true true l h is = subst (InRange least most) (same_number (digits_value 10 t) n is) (leb-true _ _ l, leb-true _ _ h)
    bounds true false l h is = absurd (none-some n is)
    bounds false high l h is = absurd (none-some n is)

pub value_bounds : (name : Text) (least most default : ℕ) (given : Option Text) (n : ℕ) → InRange least most default → value_by (number name least most default) given ≡ Some n → InRange least most n
value_bounds name least most default None n between is = subst (InRange least most) (same_number default n is) between
value_bounds name least most default (Some t) n between is = number_bounds least most t n is

power_bounds : (most : ℕ) (o : Option ℕ) (n : ℕ) → ((m : ℕ) → o ≡ Some m → InRange 1 most m) → (o >>= λ m. if is_power_of_two m then Some m else None) ≡ Some n → InRange 1 most n × (is_power_of_two n ≡ true)
power_bounds most None n within is = absurd (none-some n is)
power_bounds most (Some m) n within is = grind (arith, common_steps)

-- a power of two that an option was given, or its default
pub power_value : (name : Text) (most exponent default : ℕ) (given : Option Text) (n : ℕ) → most ≡ 2 ^ exponent → default ≤ most → is_power_of_two default ≡ true
    → value_by (power_of_two name most default) given ≡ Some n → IsPowerUpTo exponent n
power_value name most exponent default None n same few power is =
    small_power_of_two exponent n (subst (λ m. is_power_of_two m ≡ true) (same_number default n is) power) (let e = same_number default n is in omega arith)
power_value name most exponent default (Some t) n same few power is =
    let p = power_bounds most (number_of 1 most t) n (number_bounds 1 most t) is in
    small_power_of_two exponent n p.1 (omega (arith, p.0))

pub one_kilo : is_power_of_two 1024 ≡ true
unfolding ones
one_kilo = refl

-- one value after another
pub both_told : {A B : Type 0} (o : Option A) (next : A → Option B) (b : B) → (o >>= next) ≡ Some b → (a : A) × (o ≡ Some a) × (next a ≡ Some b)
both_told None next b is = absurd (none-some b is)
both_told (Some a) next b is = (a, refl, is)

-- a value that must be given lies in its range
pub required_bounds : (name : Text) (least most : ℕ) (given : Option Text) (n : ℕ) → value_by (required_number name least most) given ≡ Some n → InRange least most n
required_bounds name least most None n is = absurd (none-some n is)
required_bounds name least most (Some t) n is = number_bounds least most t n is
