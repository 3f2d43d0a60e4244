-- Bytes without a fault are the text of an image.
use Rattle.std.proofs.lemmas.Grind.{common_steps}
use Rattle.std.proofs.Common.{◌≡◌, ℕ, zero, suc, ◌+◌, ◌-◌, ◌^◌, ◌<◌, ◌≤◌, Bool, true, false, not, cond, List, [], ◌∷◌, ◌++◌, length, take, drop, Option, Some, None, refl, sym, ap, ◌∙◌, subst, arith, append_assoc, get_or}
use Rattle.std.specs.Prelude.{nat_eq, ◌==◌, ◌&&◌, slice_index}
use Rattle.std.specs.Int.{w16, w32, from_le_bytes, to_le_bytes}
use Rattle.std.specs.List.{flat_map, AllByRecursion, starts_with}
use Rattle.std.proofs.lemmas.Bool.{ltb-false, eqb-true}
use Rattle.std.proofs.lemmas.Nat.{le_bytes_2, le_bytes_4}
use Rattle.std.proofs.lemmas.Slice.Eq.{bytes_eq-Decides}
use Rattle.std.proofs.lemmas.List.{length-take-le, take-append-drop, drop-drop, get_or-drop, length-drop}
use Rattle.mica_words.specs.Packing.{AreBytes}
use Rattle.mica_words.specs.Item.{KeyFits, ValueFits}
use Rattle.mica_words.specs.declared.item.TheConstants.{MAX_VALUE_LEN}
use Rattle.store_image.specs.declared.fault.ImageFault.{ImageFault}
use Rattle.store_image.specs.declared.image.TheConstants.{MAGIC, VERSION}
use Rattle.store_image.specs.ImageGrammar.{IsPair, SpellsImage, or_later, header_text, pair_text, image_text, key_len_at, value_len_at, pair_len_at, key_at, value_at, pair_at, after_pair, count_at, are_between, is_above, lengths_fault, texts_fault, pair_fault, pairs_fault, first_fault}
use Rattle.store_image.specs.ImageTexts.{pairs_in, ArePairTexts}
use Rattle.store_image.proofs.PairLaws.{length-pairs_in}
use Rattle.store_image.proofs.Rising.{RiseAfter, keys_rise}
use Rattle.store_image.proofs.Texts.{both, between_all}

-- no fault of two is none of each
neither : (first later : Option ImageFault) → or_later first later ≡ None → (first ≡ None) × (later ≡ None)
neither first later e = grind (arith, e)

-- a test that does not hold, and what comes after it
passed : (test : Bool) (fault : ImageFault) (later : Option ImageFault) → cond test (Some fault) later ≡ None → (test ≡ false) × (later ≡ None)
passed test fault later e = grind (arith, e)

is_not : (a : Bool) → not a ≡ false → a ≡ true
is_not a e = grind (arith, common_steps)

bytes_left : (n : ℕ) (bytes : List ℕ) → AreBytes bytes → AreBytes (drop n bytes)
bytes_left n bytes are k = subst (λ (m : ℕ). m < 256) (sym (get_or-drop n bytes k 0)) (are (n + k))

-- The pair at the front of bytes without a fault there

module _ (bytes : List ℕ) (are : AreBytes bytes) (none : lengths_fault bytes ≡ None) where
  -- what its lengths say
  pub lengths_are : (3 ≤ length bytes) × (0 < key_len_at bytes) × (value_len_at bytes ≤ MAX_VALUE_LEN) × (pair_len_at bytes ≤ length bytes)
  lengths_are = grind (arith, common_steps)

-- its text
text_by : (b v0 v1 : ℕ) (texts : List ℕ) → AreBytes (b ∷ v0 ∷ v1 ∷ texts) → pair_len_at (b ∷ v0 ∷ v1 ∷ texts) ≤ length (b ∷ v0 ∷ v1 ∷ texts)
    → b ∷ v0 ∷ v1 ∷ texts ≡ pair_text (pair_at (b ∷ v0 ∷ v1 ∷ texts)) ++ after_pair (b ∷ v0 ∷ v1 ∷ texts)
unfolding pair_text
text_by b v0 v1 texts are long =
    let bytes = b ∷ v0 ∷ v1 ∷ texts in
    let v = from_le_bytes w16 (v0 ∷ v1 ∷ texts) in
    let key = take b texts in
    let after = drop b texts in
    let value = take v after in
    let left : length after ≡ length texts - b = length-drop b texts in
    let key_len : length key ≡ b = length-take-le b texts (omega arith) in
    let value_len : length value ≡ v = length-take-le v after (omega arith) in
    let two : to_le_bytes w16 v ≡ v0 ∷ v1 ∷ [] = le_bytes_2 (v0 ∷ v1 ∷ []) v refl below refl in
    let size : pair_len_at bytes ≡ suc (suc (suc (b + v))) = omega arith in
    let rest : drop (pair_len_at bytes) bytes ≡ drop v after = ap (λ (n : ℕ). drop n bytes) size ∙ sym (drop-drop v b texts) in
    let whole : (key ++ value) ++ drop v after ≡ texts
    = append_assoc key value (drop v after) ∙ ap (λ (t : List ℕ). key ++ t) (take-append-drop v after) ∙ take-append-drop b texts in
    sym (
    ap (λ (n : ℕ). ((n ∷ to_le_bytes w16 (length value)) ++ key ++ value) ++ drop (pair_len_at bytes) bytes) key_len
    ∙ ap (λ (t : List ℕ). ((b ∷ t) ++ key ++ value) ++ drop (pair_len_at bytes) bytes) (ap (to_le_bytes w16) value_len ∙ two)
    ∙ ap (λ (t : List ℕ). b ∷ v0 ∷ v1 ∷ ((key ++ value) ++ t)) rest
    ∙ ap (λ (t : List ℕ). b ∷ v0 ∷ v1 ∷ t) whole
    )
  where
    below : (i : ℕ) → get_or (v0 ∷ v1 ∷ []) i 0 < 256
    below zero = are 1
    below (suc zero) = are 2
    below (suc (suc i)) = omega arith

text_is : (bytes : List ℕ) → AreBytes bytes → 3 ≤ length bytes → pair_len_at bytes ≤ length bytes → bytes ≡ pair_text (pair_at bytes) ++ after_pair bytes
text_is [] are some long = absurd (omega arith)
text_is (b ∷ []) are some long = absurd (omega arith)
text_is (b ∷ v0 ∷ []) are some long = absurd (omega arith)
text_is (b ∷ v0 ∷ v1 ∷ texts) are some long = text_by b v0 v1 texts are long

module _ (last bytes : List ℕ) (are : AreBytes bytes) (none : pair_fault last bytes ≡ None) where
  parts : (lengths_fault bytes ≡ None) × (texts_fault last (pair_at bytes) ≡ None)
  parts = neither _ _ none

  order : ((are_between 33 126 (key_at bytes) && are_between 32 126 (value_at bytes)) ≡ true) × (is_above last (key_at bytes) ≡ true)
  order = grind (arith, common_steps)

  pub pair_fits : IsPair (pair_at bytes)
  pair_fits =
      let lengths = lengths_are bytes are parts.0 in
      let good : (are_between 33 126 (key_at bytes) ≡ true) × (are_between 32 126 (value_at bytes) ≡ true) = both _ _ order.0 in
      let first : key_len_at bytes < 256 = are 0 in
      let left : length (drop 3 bytes) ≡ length bytes - 3 = length-drop 3 bytes in
      let after : length (drop (key_len_at bytes) (drop 3 bytes)) ≡ length (drop 3 bytes) - key_len_at bytes = length-drop (key_len_at bytes) (drop 3 bytes) in
      let key : length (key_at bytes) ≡ key_len_at bytes = length-take-le (key_len_at bytes) (drop 3 bytes) (omega (arith, lengths.3)) in
      let value : length (value_at bytes) ≡ value_len_at bytes = length-take-le (value_len_at bytes) (drop (key_len_at bytes) (drop 3 bytes)) (omega (arith, lengths.3)) in
      let key_fits : KeyFits (key_at bytes) = (omega (arith, lengths.1), omega arith) in
      let value_fits : ValueFits (value_at bytes) = omega (arith, lengths.2) in
      ((key_fits, between_all 33 126 (key_at bytes) good.0), (value_fits, between_all 32 126 (value_at bytes) good.1))

  pub pair_there : bytes ≡ pair_text (pair_at bytes) ++ after_pair bytes
  pair_there = let lengths = lengths_are bytes are parts.0 in text_is bytes are lengths.0 lengths.3

  pub above : is_above last (key_at bytes) ≡ true
  above = order.1

-- so many pairs without a fault
texts_are : (last : List ℕ) (count : ℕ) (bytes : List ℕ) → AreBytes bytes → pairs_fault last count bytes ≡ None
    → AllByRecursion IsPair (pairs_in count bytes) × RiseAfter last (pairs_in count bytes) × (bytes ≡ flat_map pair_text (pairs_in count bytes))
unfolding pairs_fault pairs_in
texts_are last zero bytes are none = grind (arith, common_steps)
texts_are last (suc count) bytes are none =
    let parts : (pair_fault last bytes ≡ None) × (pairs_fault (key_at bytes) count (after_pair bytes) ≡ None) = neither _ _ none in
    let left = texts_are (key_at bytes) count (after_pair bytes) (bytes_left (pair_len_at bytes) bytes are) parts.1 in (
      (pair_fits last bytes are parts.0, left.0),
      (above last bytes are parts.0, left.1),
      pair_there last bytes are parts.0 ∙ ap (λ (t : List ℕ). pair_text (pair_at bytes) ++ t) left.2,
    )

-- The header

header_by : (b0 b1 b2 b3 b4 b5 b6 b7 b8 : ℕ) (rest : List ℕ) → AreBytes (b0 ∷ b1 ∷ b2 ∷ b3 ∷ b4 ∷ b5 ∷ b6 ∷ b7 ∷ b8 ∷ rest)
    → starts_with nat_eq (b0 ∷ b1 ∷ b2 ∷ b3 ∷ b4 ∷ b5 ∷ b6 ∷ b7 ∷ b8 ∷ rest) MAGIC ≡ true → (b4 == VERSION) ≡ true
    → b0 ∷ b1 ∷ b2 ∷ b3 ∷ b4 ∷ b5 ∷ b6 ∷ b7 ∷ b8 ∷ rest ≡ header_text (count_at (b0 ∷ b1 ∷ b2 ∷ b3 ∷ b4 ∷ b5 ∷ b6 ∷ b7 ∷ b8 ∷ rest)) ++ rest
header_by b0 b1 b2 b3 b4 b5 b6 b7 b8 rest are starts version =
    grind (arith, (bytes_eq-Decides MAGIC (b0 ∷ b1 ∷ b2 ∷ b3 ∷ [])).0, eqb-true b4 VERSION version, from_le_bytes w32 (b5 ∷ b6 ∷ b7 ∷ b8 ∷ rest), le_bytes_4 (b5 ∷ b6 ∷ b7 ∷ b8 ∷ []) (from_le_bytes w32 (b5 ∷ b6 ∷ b7 ∷ b8 ∷ rest)) refl, are 5, are 6, are 7, are 8)

header_is : (bytes : List ℕ) → AreBytes bytes → 9 ≤ length bytes → starts_with nat_eq bytes MAGIC ≡ true → (slice_index bytes 4 == VERSION) ≡ true → bytes ≡ header_text (count_at bytes) ++ drop 9 bytes
header_is (b0 ∷ b1 ∷ b2 ∷ b3 ∷ b4 ∷ b5 ∷ b6 ∷ b7 ∷ b8 ∷ rest) are long starts version = header_by b0 b1 b2 b3 b4 b5 b6 b7 b8 rest are starts version
header_is bytes are long starts version = absurd (omega arith)

-- a number of four bytes
few_counted : (bytes : List ℕ) → AreBytes bytes → count_at bytes < 2 ^ 32
few_counted bytes are =
    grind (arith, bytes_left 5 bytes are, (bytes_left 5 bytes are) 0, (bytes_left 5 bytes are) 1, (bytes_left 5 bytes are) 2, (bytes_left 5 bytes are) 3)

module _ (bytes : List ℕ) (are : AreBytes bytes) (none : first_fault bytes ≡ None) where
  -- what is behind the header of bytes without a fault
  pub faultless_texts : ArePairTexts (count_at bytes) (drop 9 bytes)
  unfolding first_fault
  faultless_texts =
      let is = texts_are [] (count_at bytes) (drop 9 bytes) (bytes_left 9 bytes are) (neither _ _ none).1 in
      let few = few_counted bytes are in
      record {
        image = record { each = is.0; rise = keys_rise [] _ is.1; few = omega (arith, length-pairs_in (count_at bytes) (drop 9 bytes)) };
        texts = is.2;
      }

  pub faultless_spells : SpellsImage bytes (pairs_in (count_at bytes) (drop 9 bytes))
  unfolding first_fault image_text
  faultless_spells =
      let one = passed _ _ _ (neither _ _ none).0 in
      let two = passed _ _ _ one.1 in
      let three = passed _ _ _ two.1 in
      let is = header_is bytes are (ltb-false (length bytes) 9 one.0) (is_not _ two.0) (is_not _ three.0) in
      let count = length-pairs_in (count_at bytes) (drop 9 bytes) in
      record {
        image = faultless_texts.image;
        text = is ∙ ap (λ (n : ℕ). header_text n ++ drop 9 bytes) (sym count) ∙ ap (λ (t : List ℕ). header_text (length (pairs_in (count_at bytes) (drop 9 bytes))) ++ t) faultless_texts.texts;
      }
