-- What numbers as values have.
use Rattle.std.proofs.Common.{◌≡◌, ◌<◌, ◌≤◌, ◌+◌, ◌-◌, ◌^◌, ℕ, zero, suc, List, [], ◌∷◌, ◌++◌, Bool, true, false, Option, Some, None, cond, length, take, replicate, max, refl, ap, ◌∙◌, subst, arith, length-append, unwrap_or}
use Rattle.std.specs.Option.{IfSome}
use Rattle.std.specs.Fmt.{decimal}
use Rattle.std.specs.Char.{is_ascii_digit}
use Rattle.std.specs.Str.{all_ascii_digits}
use Rattle.std.proofs.Math.Seq.{take-append_seam}
use Rattle.std.proofs.lemmas.Fmt.{length-decimal-le}
use Rattle.std.proofs.lemmas.List.{length-replicate}
use Rattle.std.proofs.lemmas.Nat.{mod_below}
use Rattle.std.proofs.lemmas.Option.{none-some}
use Rattle.memcached_text.specs.declared.limits.TheConstants.{MAX_TEXT_LEN}
use Rattle.memcached_text.specs.declared.command.Direction.{Direction}
use Rattle.memcached_text.specs.declared.command.Direction.TheVariants.{Up, Down}
use Rattle.memcached_text.specs.Numbers.{number_of}
use Rattle.memcached_text.proofs.NumberLaws.{both, decimal_digits, number_of_decimal, small_number}
use Rattle.memcached_commands.specs.Counting.{digits_of, after_digits, may_end, number_in, counted, padded}

abbrev most : ℕ
most = 18446744073709551615

split : (value : List ℕ) → value ≡ digits_of value ++ after_digits value
split [] = refl
split (byte ∷ bytes) = go (is_ascii_digit byte) (split bytes)
  where
    go : (t : Bool) → bytes ≡ digits_of bytes ++ after_digits bytes → byte ∷ bytes ≡ cond t (byte ∷ digits_of bytes) [] ++ cond t (after_digits bytes) (byte ∷ bytes)
    go true later = ap (λ rest. byte ∷ rest) later
    go false later = refl

-- the digits are what stands before the rest
pub digits_before : (value rest : List ℕ) → rest ≡ after_digits value → take (length value - length rest) value ≡ digits_of value
digits_before value rest is =
    let whole = split value in
    let len : length value - length rest ≡ length (digits_of value) = omega (arith, ap length whole, length-append (digits_of value) (after_digits value), ap length is) in
    ap (λ n. take n value) len ∙ ap (λ v. take (length (digits_of value)) v) whole ∙ take-append_seam (digits_of value) (after_digits value)

if_some : {A : Type 0} (o : Option A) (x : A) (P : A → Type 0) → IfSome o P → o ≡ Some x → P x
if_some (Some y) x P holds is = subst P (ap (λ p. unwrap_or p y) is) holds
if_some None x P holds is = absurd (none-some x is)

-- a number of 64 bits
pub number_fits : (value : List ℕ) (n : ℕ) → number_in value ≡ Some n → n ≤ most
unfolding number_in
number_fits value n = go (may_end (after_digits value))
  where
    go : (t : Bool) → cond t (number_of most (digits_of value)) None ≡ Some n → n ≤ most
    go true is = if_some _ n (λ n. n ≤ most) (small_number most (digits_of value)) is
    go false is = absurd (none-some n is)

pub counted_fits : (direction : Direction) (delta n : ℕ) → n ≤ most → counted direction delta n < 2 ^ 64
counted_fits Up delta n is = mod_below (n + delta) (2 ^ 64) (omega arith)
counted_fits Down delta n is = omega arith

pub padded_len : (len n : ℕ) → length (padded len n) ≡ max len (length (decimal n))
padded_len len n = omega (arith, length-append (decimal n) (replicate (len - length (decimal n)) 32), length-replicate {A = ℕ} (len - length (decimal n)) 32)

pub padded_fits : (len most n : ℕ) → n < 2 ^ 64 → len ≤ most → 20 ≤ most → length (padded len n) ≤ most
padded_fits len most n small fits room = omega (arith, padded_len len n, length-decimal-le 20 n (omega arith) (omega arith) small)

-- the digits of a number are no longer than a value may be
pub digits_fit : (n : ℕ) → n < 2 ^ 64 → length (decimal n) ≤ MAX_TEXT_LEN
digits_fit n small = omega (arith, length-decimal-le 20 n (omega arith) (omega arith) small)

digits_end : (digits rest : List ℕ) → all_ascii_digits digits ≡ true → digits_of rest ≡ [] → after_digits rest ≡ rest
    → (digits_of (digits ++ rest) ≡ digits) × (after_digits (digits ++ rest) ≡ rest)
digits_end [] rest all none left = (none, left)
digits_end (byte ∷ bytes) rest all none left =
    let is = both (is_ascii_digit byte) (all_ascii_digits bytes) all in
    let later = digits_end bytes rest is.1 none left in
    (rw is.0 (ap (λ ds. byte ∷ ds) later.0), rw is.0 later.1)

spaces_end : (k : ℕ) → (digits_of (replicate k 32) ≡ []) × (after_digits (replicate k 32) ≡ replicate k 32) × (may_end (replicate k 32) ≡ true)
spaces_end zero = (refl, refl, refl)
spaces_end (suc k) = (refl, refl, refl)

-- a number that was padded is read as it
pub padded_reads : (len n : ℕ) → n < 2 ^ 64 → number_in (padded len n) ≡ Some n
unfolding number_in
padded_reads len n small =
    let spaces = spaces_end (len - length (decimal n)) in
    let ends = digits_end (decimal n) (replicate (len - length (decimal n)) 32) (decimal_digits n small) spaces.0 spaces.1 in
    rw (ends.0, ends.1, spaces.2) (number_of_decimal most n (omega arith) small)
