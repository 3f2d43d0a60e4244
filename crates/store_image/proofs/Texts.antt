-- The characters of keys and values.
use Rattle.std.proofs.Common.{arith}
use Rattle.std.proofs.lemmas.Grind.{common_steps}
use Rattle.std.proofs.Common.{◌≡◌, ℕ, ◌≤◌, Bool, true, false, leb, not, Option, None, List, [], ◌∷◌, refl, sym, ap, ◌∙◌}
use Rattle.std.specs.Prelude.{◌&&◌, ◌↔◌, IsTrue}
use Rattle.std.specs.List.{AllByRecursion}
use Rattle.std.proofs.lemmas.Bool.{le-leb, leb-true}
use Rattle.mica_words.specs.Item.{KeyFits, ValueFits}
use Rattle.mica_trace.specs.TraceGrammar.{IsKey, IsValue}
use Rattle.store_image.specs.declared.fault.ImageFault.{ImageFault}
use Rattle.store_image.specs.declared.fault.ImageFault.TheVariants.{Text, Order}
use Rattle.store_image.specs.ImageGrammar.{Pair, pair_at, are_between, is_above, first_of, or_later, lengths_fault, texts_fault, pair_fault}

pub both : (a b : Bool) → (a && b) ≡ true → (a ≡ true) × (b ≡ true)
both a b e = grind (arith, common_steps)

pub between_all : (least most : ℕ) (text : List ℕ) → are_between least most text ≡ true → AllByRecursion (λ b. (least ≤ b) × (b ≤ most)) text
between_all least most [] e = tt
between_all least most (b ∷ text) e =
    let parts = both (leb least b && leb b most) (are_between least most text) e in
    let here = both (leb least b) (leb b most) parts.0 in
    ((leb-true _ _ here.0, leb-true _ _ here.1), between_all least most text parts.1)

all_between : (least most : ℕ) (text : List ℕ) → AllByRecursion (λ b. (least ≤ b) × (b ≤ most)) text → are_between least most text ≡ true
all_between least most [] all = refl
all_between least most (b ∷ text) all =
    grind (arith, le-leb _ _ all.0.0, le-leb _ _ all.0.1, (le-leb _ _ all.0.0), (le-leb _ _ all.0.1), all_between least most text all.1)

pub good_texts : (key value : List ℕ) → IsKey key × IsValue value → (are_between 33 126 key && are_between 32 126 value) ≡ true
good_texts key value is = rw (all_between 33 126 key is.0.1, all_between 32 126 value is.1.1) refl

-- of texts that fit the characters decide
pub tested : (result : Bool) (key value : List ℕ) → KeyFits key → ValueFits value → (IsTrue result ↔ (IsKey key × IsValue value))
    → (are_between 33 126 key && are_between 32 126 value) ≡ result
tested true key value key_fits value_fits is = good_texts key value (is.0 refl)
tested false key value key_fits value_fits is =
    elim (are_between 33 126 key && are_between 32 126 value) as (λ b. (are_between 33 126 key && are_between 32 126 value) ≡ b → b ≡ false) [
      | true ↦ λ e. let parts = both _ _ e in sym (is.1 ((key_fits, between_all 33 126 key parts.0), (value_fits, between_all 32 126 value parts.1)))
      | false ↦ λ e. refl
    ] refl

-- a pair whose lengths have no fault is judged by its texts
pub pair_tested : (last from : List ℕ) (pair : Pair) (good above : Bool) → lengths_fault from ≡ None → pair_at from ≡ pair → (are_between 33 126 pair.key && are_between 32 126 pair.value) ≡ good → is_above last pair.key ≡ above
    → pair_fault last from ≡ first_of ((not good, Text) ∷ (not above, Order) ∷ [])
pair_tested last from pair good above none is texts order = ap (λ (o : Option ImageFault). or_later o (texts_fault last (pair_at from))) none ∙ ap (texts_fault last) is ∙ rw (texts, order) refl
