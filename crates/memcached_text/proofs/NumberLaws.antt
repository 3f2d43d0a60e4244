-- What std's `parse` tells of a word, and the word of a number.
use Rattle.std.proofs.Common.{◌≡◌, ◌<◌, ◌≤◌, ◌^◌, ◌+◌, ◌*◌, ◌-◌, ℕ, List, [], ◌∷◌, Bool, true, false, true≢false, ◌&&◌, Some, None, nat_le, nat_lt, cond, ap, length, sym, refl, ◌∙◌, arith}
use Rattle.std.specs.Option.{IfSome}
use Rattle.std.specs.Fmt.{decimal}
use Rattle.std.specs.Str.{all_ascii_digits}
use Rattle.std.specs.Char.{digit_value, is_ascii_digit}
use Rattle.std.specs.Str.Parse.{AllDigits, digits_value, digits_value_after}
use Rattle.std.proofs.lemmas.Fmt.{digits_decimal, digits_value-decimal, decimal_nonempty}
use Rattle.std.proofs.lemmas.Str.Parse.{IsNumeralModel, numerals_by_value, tells_all_ascii_digits, tells_digits}
use Rattle.std.proofs.lemmas.Grind.{common_steps}
use Rattle.std.proofs.lemmas.Bool.{ltb-false, leb-true, le-leb, lt-leb, lt-ltb, ltb-true}
use Rattle.memcached_text.specs.Lines.{Lacks}
use Rattle.memcached_text.specs.Numbers.{is_digits, number_of}

abbrev pub own : IsNumeralModel (λ ds. all_ascii_digits ds ≡ true) (digits_value 10)
own = numerals_by_value _ tells_all_ascii_digits

digits_lack : (byte : ℕ) → byte < 48 → (ds : List ℕ) → AllDigits 10 ds → Lacks byte ds
digits_lack byte low [] all = tt
digits_lack byte low (d ∷ ds) all = grind (arith, common_steps, digits_lack byte low ds all.1)

-- a number has no space and no line feed
pub decimal_lacks : (byte n : ℕ) → byte < 48 → n < 2 ^ 64 → Lacks byte (decimal n)
decimal_lacks byte n low is = digits_lack byte low (decimal n) (digits_decimal (numerals_by_value (AllDigits 10) tells_digits) n is)

pub decimal_digits : (n : ℕ) → n < 2 ^ 64 → all_ascii_digits (decimal n) ≡ true
decimal_digits n is = digits_decimal own n is

-- the word of a number
pub decimal_is : (n : ℕ) → n < 2 ^ 64 → is_digits (decimal n) ≡ true
decimal_is n is =
    let some : nat_lt 0 (length (decimal n)) ≡ true = lt-ltb _ _ (decimal_nonempty n is) in
    rw (some, digits_decimal own n is) refl

-- is read as that number
pub number_of_decimal : (most n : ℕ) → n ≤ most → n < 2 ^ 64 → number_of most (decimal n) ≡ Some n
unfolding number_of
number_of_decimal most n within is =
    let value = digits_value-decimal own n is in
    let low : nat_le n most ≡ true = le-leb _ _ within in
    rw (decimal_is n is, value, low) refl

-- a number that is read is no greater
pub small_number : (most : ℕ) (word : List ℕ) → IfSome (number_of most word) (λ n. n ≤ most)
unfolding number_of
small_number most word = go (is_digits word) (nat_le (digits_value 10 word) most) refl
  where
    go : (digits low : Bool) → nat_le (digits_value 10 word) most ≡ low → IfSome (cond (digits && low) (Some (digits_value 10 word)) None) (λ n. n ≤ most)
    go true true is = leb-true _ _ is
    go true false is = tt
    go false low is = tt

pub both : (a b : Bool) → (a && b) ≡ true → (a ≡ true) × (b ≡ true)
both true true is = (refl, refl)
both true false is = absurd (true≢false (sym is))
both false b is = absurd (true≢false (sym is))

-- So much of a word was read, as this number, and these bytes are left.
pub record IsPartRead (word : List ℕ) (number : ℕ) (rest : List ℕ) : Type 0 where
  pub digits : all_ascii_digits word ≡ all_ascii_digits rest
  pub value : digits_value 10 word ≡ digits_value_after 10 number rest

pub digit_is : (b : ℕ) → is_ascii_digit b ≡ true → digit_value b ≡ b - 48
digit_is b is = grind (arith, common_steps, is)

-- one digit more
pub one_read : (word : List ℕ) (number b : ℕ) (rest : List ℕ) → IsPartRead word number (b ∷ rest) → is_ascii_digit b ≡ true → IsPartRead word (number * 10 + (b - 48)) rest
one_read word number b rest part is = record {
  digits = part.digits ∙ rw is refl;
  value = part.value ∙ ap (λ d. digits_value_after 10 (number * 10 + d) rest) (digit_is b is);
}

-- a byte that is none
pub no_digit : (most : ℕ) (word : List ℕ) (number b : ℕ) (rest : List ℕ) → IsPartRead word number (b ∷ rest) → is_ascii_digit b ≡ false → number_of most word ≡ None
unfolding number_of
no_digit most word number b rest part is = let none : all_ascii_digits word ≡ false = part.digits ∙ rw is refl in go (nat_lt 0 (length word)) none
  where
    go : (t : Bool) → all_ascii_digits word ≡ false → cond ((t && all_ascii_digits word) && nat_le (digits_value 10 word) most) (Some (digits_value 10 word)) None ≡ None
    go true none = rw none refl
    go false none = refl

-- what follows makes no number less
grows : (rest : List ℕ) (number : ℕ) → number ≤ digits_value_after 10 number rest
grows [] number = omega arith
grows (b ∷ rest) number = omega (arith, grows rest (number * 10 + digit_value b))

pub no_word : (most : ℕ) (word : List ℕ) → length word ≡ 0 → number_of most word ≡ None
unfolding number_of
no_word most [] none = refl
no_word most (b ∷ word) none = absurd (omega arith)

-- what a sum or a product that does not fit tells
pub above : (n top : ℕ) → ¬ (n < top) → top ≤ n
above n top not_below = go (nat_lt n top) refl
  where
    go : (t : Bool) → nat_lt n top ≡ t → top ≤ n
    go true is = absurd (not_below (ltb-true _ _ is))
    go false is = ltb-false _ _ is

-- a number that is too great by now
pub too_great : (most : ℕ) (word : List ℕ) (number : ℕ) (rest : List ℕ) → IsPartRead word number rest → most < number → number_of most word ≡ None
unfolding number_of
too_great most word number rest part great =
    let high : nat_le (digits_value 10 word) most ≡ false = lt-leb _ _ (omega (arith, part.value, grows rest number)) in
    rw high (go (is_digits word))
  where
    go : (t : Bool) → cond (t && false) (Some (digits_value 10 word)) None ≡ None
    go true = refl
    go false = refl

-- a number that is too great with one digit more
pub too_great_next : (most : ℕ) (word : List ℕ) (number b : ℕ) (rest : List ℕ) → IsPartRead word number (b ∷ rest) → is_ascii_digit b ≡ true → most < number * 10 + (b - 48) → number_of most word ≡ None
too_great_next most word number b rest part is great = too_great most word (number * 10 + (b - 48)) rest (one_read word number b rest part is) great

-- all of it
pub all_read : (most : ℕ) (word : List ℕ) (number : ℕ) → 0 < length word → IsPartRead word number [] → number ≤ most → number_of most word ≡ Some number
unfolding number_of
all_read most word number some part small =
    let low : nat_le number most ≡ true = le-leb _ _ small in
    let longer : nat_lt 0 (length word) ≡ true = lt-ltb _ _ some in
    rw (longer, part.digits, part.value, low) refl
