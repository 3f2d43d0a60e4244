-- What the text of an amount of bytes means.
use Rattle.std.proofs.Common.{◌≡◌, ◌≢◌, ◌==◌, ℕ, ◌≤◌, ◌<◌, ◌*◌, ◌/◌, [], ◌∷◌, ◌++◌, Option, Some, None, Bool, true, false, nat_le, option_map, unwrap_or, ap, refl, sym, ◌∙◌, subst, if◌then◌else◌, arith, Bor, MatchOption}
use Rattle.std.proofs.Math.Nat.{le-div_iff_mul-le}
use Rattle.std.proofs.lemmas.Bool.{leb-true}
use Rattle.std.proofs.lemmas.Bool.Decides.{nat_tests}
use Rattle.std.proofs.lemmas.Option.{none-some}
use Rattle.partition_model.specs.Options.{InRange}
use Rattle.option_words.specs.Words.{Text}
use Rattle.option_words.specs.Settings.{number_of}
use Rattle.daemon_words.specs.Memory.{before_letter, before_unit, amount_in, amount_or, amount_of}
use Rattle.option_words.proofs.ValueLemmas.{both_told, number_bounds}

-- a text that ends with the letter
pub before_last_letter : (letter : ℕ) (front : Text) → before_letter letter (front ++ letter ∷ []) ≡ Some front
before_last_letter letter [] = grind (arith, nat_tests)
before_last_letter letter (x ∷ []) = ap (option_map (λ text. x ∷ text)) (before_last_letter letter [])
before_last_letter letter (x ∷ y ∷ ys) = ap (option_map (λ text. x ∷ text)) (before_last_letter letter (y ∷ ys))

-- one that does not
abbrev no_text : Text
no_text = []

other_letter : (letter x : ℕ) (same : Bool) → (x == letter) ≡ same → ((front : Text) → (x ∷ []) ≢ front ++ letter ∷ []) → (if same then Some no_text else None) ≡ None
other_letter letter x true is never = let e : x ≡ letter = grind (arith, nat_tests) in absurd (never no_text (ap (λ (n : ℕ). n ∷ no_text) e))
other_letter letter x false is never = refl

pub no_last_letter : (letter : ℕ) (text : Text) → ((front : Text) → text ≢ front ++ letter ∷ []) → before_letter letter text ≡ None
no_last_letter letter [] never = refl
no_last_letter letter (x ∷ []) never = other_letter letter x (x == letter) refl never
no_last_letter letter (x ∷ y ∷ ys) never = ap (option_map (λ text. x ∷ text)) (no_last_letter letter (y ∷ ys) (λ front is. never (x ∷ front) (ap (λ text. x ∷ text) is)))

pub before_by : (letter : ℕ) (text : Text) (r : Option (Bor Text)) → MatchOption r ((front : Text) → text ≢ front ++ letter ∷ []) (λ x. text ≡ x.now ++ letter ∷ []) → option_map (λ d. d.now) r ≡ before_letter letter text
before_by letter text None never = sym (no_last_letter letter text never)
before_by letter text (Some x) is = sym (ap (before_letter letter) is ∙ before_last_letter letter x.now)

-- so many units are no more than the most
pub units_few : (unit count most : ℕ) → 0 < unit → count ≤ most / unit → count * unit ≤ most
units_few unit count most some few = (le-div_iff_mul-le {k = unit} {x = count} {y = most} some).0 few

module _ (least most : ℕ) where
  amount_bounds : (unit : ℕ) (digits : Text) (n : ℕ) → 0 < unit → amount_in least most unit digits ≡ Some n → InRange least most n
  amount_bounds unit digits n some is =
      let c = both_told (number_of 1 (most / unit) digits) _ n is in
      let few = units_few unit c.0 most some (number_bounds 1 (most / unit) digits c.0 c.1).1 in
      elim (nat_le least (c.0 * unit)) as (λ b. nat_le least (c.0 * unit) ≡ b → (if b then Some (c.0 * unit) else None) ≡ Some n → InRange least most n) [
        | true ↦ λ low same. subst (InRange least most) (ap (λ o. unwrap_or o 0) same) (leb-true least (c.0 * unit) low, few)
        | false ↦ λ _ none. absurd (none-some n none)
      ] refl c.2

  either_bounds : (unit : ℕ) (digits : Option Text) (other : Option ℕ) (n : ℕ) → 0 < unit → ((m : ℕ) → other ≡ Some m → InRange least most m) → amount_or least most unit digits other ≡ Some n → InRange least most n
  either_bounds unit None other n some rest is = rest n is
  either_bounds unit (Some digits) other n some rest is = amount_bounds unit digits n some is

  pub amounts_within : (text : Text) (n : ℕ) → amount_of least most text ≡ Some n → InRange least most n
  amounts_within text n = either_bounds 1024 (before_unit 75 107 text) _ n (omega arith)
      (λ m. either_bounds 1048576 (before_unit 77 109 text) _ m (omega arith)
      (λ k. either_bounds 1073741824 (before_unit 71 103 text) _ k (omega arith)
      (λ j. amount_bounds 1 text j (omega arith))))
