-- Words that no option takes: what other words look like, and that the grammar refuses them.
use Rattle.std.proofs.Common.{◌≡◌, ℕ, ◌==◌, ◌&&◌, ◌||◌, Bool, true, false, true≢false, List, [], ◌∷◌, ◌++◌, map, Option, Some, None, sym, refl, ap, ◌∙◌, subst, arith}
use Rattle.std.specs.Prelude.{option_and_then}
use Rattle.std.specs.List.{list_any}
use Rattle.std.proofs.lemmas.Bool.Decides.{nat_tests}
use Rattle.std.proofs.lemmas.Grind.{common_steps}
use Rattle.option_words.specs.ClapCommand.{is_stray, is_blank}
use Rattle.option_words.specs.Words.{Text, Given, has_name, is_given, behind_hyphen, begins_with_hyphen, Word, named, valued, other, word_by, word_of, on_word, give, given_after, given_by}

pub or_left : (a b : Bool) → (a || b) ≡ false → a ≡ false
or_left true b e = e
or_left false b e = refl

pub or_right : (a b : Bool) → (a || b) ≡ false → b ≡ false
or_right true b e = absurd (true≢false e)
or_right false b e = e

pub and_left : (a b : Bool) → (a && b) ≡ true → a ≡ true
and_left true b e = refl
and_left false b e = absurd (true≢false (sym e))

pub and_right : (a b : Bool) → (a && b) ≡ true → b ≡ true
and_right true b e = e
and_right false b e = absurd (true≢false (sym e))

-- a word that is not stray begins with no hyphen, or has a text behind two
pub data View : Text → Type 0 where
  plain : (x : Text) → begins_with_hyphen x ≡ false → View x
  long : (a : ℕ) (b : Text) → View (45 ∷ 45 ∷ a ∷ b)

is_hyphen : (x : ℕ) → (x == 45) ≡ true → 45 ≡ x
is_hyphen x e = grind (arith, nat_tests)

view_second : (x : ℕ) (t : Text) (s : Bool) → (x == 45) ≡ s → is_stray (45 ∷ x ∷ t) ≡ false → View (45 ∷ x ∷ t)
view_second x [] true e even = absurd (true≢false (rw e at even))
view_second x (a ∷ b) true e even = subst (λ (y : ℕ). View (45 ∷ y ∷ a ∷ b)) (is_hyphen x e) (long a b)
view_second x t false e even = absurd (true≢false (rw e at even))

view_first : (x : ℕ) (t : Text) (s : Bool) → (x == 45) ≡ s → is_stray (x ∷ t) ≡ false → View (x ∷ t)
view_first x t false e even = plain (x ∷ t) e
view_first x [] true e even = absurd (true≢false (rw e at even))
view_first x (y ∷ t) true e even = grind (arith, common_steps, is_hyphen x e, view_second y t (y == 45) refl)

pub view : (x : Text) → is_stray x ≡ false → View x
view [] even = plain [] refl
view (x ∷ t) even = view_first x t (x == 45) refl even

-- the grammar refuses a word that no option takes

module _ (names : List Text) where
  stray_word : (x : Text) (t : Option Text) → is_blank t ≡ true → has_name [] names ≡ false → word_by names t ≡ other
  stray_word x None b e = refl
  stray_word x (Some []) b e = rw e refl
  stray_word x (Some (y ∷ ys)) b e = absurd (true≢false (sym b))

  abbrev IsRefused : List Text → Type 0
  IsRefused ws = (given : Given) (waiting : Option Text) → given_after names given waiting ws ≡ None

  give_refused : (ws : List Text) → IsRefused ws → (given : Given) (n v : Text) (there : Bool) → is_given n given ≡ there → give n v given (λ l. given_after names l None ws) ≡ None
  give_refused ws never given n v true e = rw e refl
  give_refused ws never given n v false e = rw e (never (given ++ (n, v) ∷ []) None)

  later_word : (ws : List Text) → IsRefused ws → (given : Given) (w : Word) → on_word w given (λ v waiting. given_after names v waiting ws) ≡ None
  later_word ws never given (named n) = never given (Some n)
  later_word ws never given (valued n v) = give_refused ws never given n v (is_given n given) refl
  later_word ws never given other = refl

  later_wait : (x : Text) (ws : List Text) → IsRefused ws → (given : Given) (n : Text) (dash : Bool) → begins_with_hyphen x ≡ dash → given_after names given (Some n) (x ∷ ws) ≡ None
  later_wait x ws never given n true e = rw e refl
  later_wait x ws never given n false e = rw e (give_refused ws never given n x (is_given n given) refl)

  stray_head : (x : Text) (ws : List Text) → has_name [] names ≡ false → is_stray x ≡ true → IsRefused (x ∷ ws)
  stray_head x ws e stray given None = rw (stray_word x (option_and_then behind_hyphen (behind_hyphen x)) (and_right (begins_with_hyphen x) _ stray) e) refl
  stray_head x ws e stray given (Some n) = rw (and_left (begins_with_hyphen x) _ stray) refl

  later : (x : Text) (ws : List Text) → IsRefused ws → IsRefused (x ∷ ws)
  later x ws never given None = later_word ws never given (word_of names x)
  later x ws never given (Some n) = later_wait x ws never given n (begins_with_hyphen x) refl

  stray_refused : (ws : List Text) → has_name [] names ≡ false → list_any is_stray ws ≡ true → IsRefused ws
  stray_refused [] e stray given waiting = absurd (true≢false (sym stray))
  stray_refused (x ∷ ws) e stray given waiting =
      elim (is_stray x) as (λ t. is_stray x ≡ t → (t || list_any is_stray ws) ≡ true → given_after names given waiting (x ∷ ws) ≡ None) [
        | true ↦ λ here _. stray_head x ws e here given waiting
        | false ↦ λ _ there. later x ws (stray_refused ws e there) given waiting
      ] refl stray

pub stray_texts : {S : Type 0} (text : S → Text) (ws : List S) → list_any (λ w. is_stray (text w)) ws ≡ list_any is_stray (map text ws)
stray_texts text [] = refl
stray_texts text (w ∷ ws) = ap (λ b. is_stray (text w) || b) (stray_texts text ws)

-- as a caller of the parse has them
pub texts_refused : (names : List Text) {S : Type 0} (text : S → Text) (ws : List S) → has_name [] names ≡ false → list_any (λ w. is_stray (text w)) ws ≡ true → given_by names (map text ws) ≡ None
texts_refused names text ws unnamed e = stray_refused names (map text ws) unnamed (sym (stray_texts text ws) ∙ e) [] None
