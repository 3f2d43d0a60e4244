-- What std's `parse` tells of a number in decimal.
use Rattle.std.proofs.Common.{◌≡◌, ◌≢◌, ◌<◌, ◌≤◌, ◌^◌, ℕ, [], ◌∷◌, Bool, true, false, true≢false, Some, None, Result, Ok, Err, nat_le, get_or, ap, unwrap_or, length, sym, refl, ◌∙◌, arith}
use Rattle.std.specs.Str.{all_ascii_digits}
use Rattle.std.specs.Str.Parse.{digits_value, ParsesUnsigned}
use Rattle.std.specs.Result.{OkIff, result_ok}
use Rattle.std.proofs.lemmas.Str.Parse.{parse_plain, numerals_by_value, tells_all_ascii_digits}
use Rattle.std.proofs.lemmas.Bool.Decides.{nat_tests}
use Rattle.std.proofs.lemmas.Option.{none-some}
use Rattle.std.proofs.lemmas.Bool.{leb-true, le-leb}
use Rattle.option_words.specs.Words.{Text}
use Rattle.option_words.specs.Settings.{begins_number, number_of}

no_plus : (t : Text) → begins_number t ≡ true → get_or t 0 0 ≢ 43
no_plus [] e = absurd (true≢false (sym e))
no_plus (x ∷ []) e = λ is. grind (arith, nat_tests)
no_plus (x ∷ y ∷ ys) e = λ is. grind (arith, nat_tests)

some_digit : (t : Text) → begins_number t ≡ true → 0 < length t
some_digit [] e = absurd (true≢false (sym e))
some_digit (x ∷ xs) e = omega arith

parsed : {E : Type 0} (t : Text) (r : Result ℕ E) → begins_number t ≡ true → ParsesUnsigned 64 10 t r
    → OkIff r ((all_ascii_digits t ≡ true) × (0 < length t) × (digits_value 10 t < 2 ^ 64)) (digits_value 10 t)
parsed t r begins parse = parse_plain (numerals_by_value _ tells_all_ascii_digits) 64 t r parse (no_plus t begins)

ok_told : {E : Type 0} (r : Result ℕ E) (n v : ℕ) (P : Type 0) → result_ok r ≡ Some n → OkIff r P v → P × (n ≡ v)
ok_told (Ok x) n v P is told = (told.0, ap (λ o. unwrap_or o 0) (sym is) ∙ told.1)
ok_told (Err e) n v P is told = absurd (none-some n is)

err_told : {E : Type 0} (r : Result ℕ E) (v : ℕ) (P : Type 0) → result_ok r ≡ None → OkIff r P v → ¬ P
err_told (Ok x) v P is told = absurd (none-some x (sym is))
err_told (Err e) v P is told = told

-- a number that `parse` reads, and that lies in the range
pub number_read : {E : Type 0} (least most : ℕ) (t : Text) (r : Result ℕ E) (n : ℕ) → begins_number t ≡ true → ParsesUnsigned 64 10 t r → result_ok r ≡ Some n → least ≤ n → n ≤ most → number_of least most t ≡ Some n
number_read least most t r n begins parse is low high =
    let told = ok_told r n _ _ is (parsed t r begins parse) in
    let low' : nat_le least (digits_value 10 t) ≡ true = le-leb _ _ (omega (arith, told.1)) in
    let high' : nat_le (digits_value 10 t) most ≡ true = le-leb _ _ (omega (arith, told.1)) in
    rw (begins, told.0.0, low', high') (ap (λ v. Some v) (sym told.1))

none_of : (least most : ℕ) (t : Text) (digits low high : Bool) → begins_number t ≡ true → all_ascii_digits t ≡ digits → nat_le least (digits_value 10 t) ≡ low → nat_le (digits_value 10 t) most ≡ high → (digits ≡ true → high ≡ true → ⊥) → number_of least most t ≡ None
none_of least most t false low high b e l h never = rw (b, e) refl
none_of least most t true low true b e l h never = absurd (never refl refl)
none_of least most t true false false b e l h never = rw (b, e, l) refl
none_of least most t true true false b e l h never = rw (b, e, l, h) refl

-- and one that it refuses
pub number_refused : {E : Type 0} (least most : ℕ) (t : Text) (r : Result ℕ E) → begins_number t ≡ true → ParsesUnsigned 64 10 t r → result_ok r ≡ None → most < 2 ^ 64 → number_of least most t ≡ None
number_refused least most t r begins parse none fits = none_of least most t _ _ _ begins refl refl refl (λ d h. err_told r _ _ none (parsed t r begins parse) (d, some_digit t begins, (let high = leb-true _ _ h in omega arith)))
