-- The notes of a table of fates, before and after a key has another, by its entries.
use Rattle.std.proofs.Common.{◌≡◌, ◌≢◌, ℕ, List, [], ◌∷◌, Option, Some, None, refl, sym, ap, ◌∙◌, cond, true, false, is_some, arith}
use Rattle.std.specs.Option.{option_map}
use Rattle.std.specs.Cmp.{eq_by_cmp_equiv}
use Rattle.std.specs.Cmp.Lexicographic.{nat_list_cmp_total}
use Rattle.std.specs.Str.{bytes_eq}
use Rattle.std.specs.Global.{Vec}
use Rattle.std.specs.BTreeMap.{insert_entry}
use Rattle.std.specs.Map.{lookup, set_value}
use Rattle.std.proofs.lemmas.Bool.{true≢false, false_from_ne_true}
use Rattle.std.proofs.lemmas.Slice.Eq.{bytes_eq-Decides}
use Rattle.std.proofs.lemmas.Grind.{common_steps}
use Rattle.partition_model.specs.declared.fate.Fate.{Fate}
use Rattle.partition_model.specs.declared.fate.Fate.TheVariants.{Never}
use Rattle.mica_model.specs.CacheFields.{Notes, fate_in, marked}
use Rattle.mica_model.proofs.CellEntries.{by_items, has_bytes}
use Rattle.partition_model.proofs.StoreLaws.{bytes_are_same}

abbrev pub notes_in : List (Vec ℕ × Fate) → Notes
notes_in es = λ key. lookup (has_bytes key) es

-- a key of other bytes
no_other : (key k : List ℕ) (at : Vec ℕ) → key ≢ k → has_bytes key at ≡ true → has_bytes k at ≡ false
no_other key k at other is = false_from_ne_true (has_bytes k at) (λ yes. other (bytes_are_same key at.items is ∙ sym (bytes_are_same k at.items yes)))

its_own : (key : Vec ℕ) → has_bytes key.items key ≡ true
its_own key = (eq_by_cmp_equiv nat_list_cmp_total).refl key.items

-- a fact of a key's own note, and of the others, is one of each note
by_key : (key : List ℕ) (P : List ℕ → Type 0) → P key → ((k : List ℕ) → key ≢ k → P k) → (k : List ℕ) → P k
by_key key P own others k = grind (arith, common_steps, bytes_eq-Decides key k, true≢false)

module _ (key : List ℕ) (fate : Fate) where
  set_own : (es : List (Vec ℕ × Fate)) → lookup (has_bytes key) (set_value (has_bytes key) es fate) ≡ option_map (λ _. fate) (lookup (has_bytes key) es)
  set_own [] = refl
  set_own (e ∷ es) = grind (arith, common_steps, set_own es)

  set_other : (k : List ℕ) → key ≢ k → (es : List (Vec ℕ × Fate)) → lookup (has_bytes k) (set_value (has_bytes key) es fate) ≡ lookup (has_bytes k) es
  set_other k other [] = refl
  set_other k other (e ∷ es) = grind (arith, common_steps, no_other key k e.0 other, set_other k other es)

  marked_own : (notes : Notes) → marked key fate notes key ≡ option_map (λ _. fate) (notes key)
  marked_own notes = ap (λ b. cond b (option_map (λ _. fate) (notes key)) (notes key)) ((bytes_eq-Decides key key).1 refl)

  marked_another : (notes : Notes) (k : List ℕ) → key ≢ k → marked key fate notes k ≡ notes k
  marked_another notes k other = grind (arith, common_steps, false_from_ne_true (bytes_eq key k), bytes_eq-Decides key k)

  -- what is written through what the key's look-up lends
  pub set_marks : (es : List (Vec ℕ × Fate)) (k : List ℕ) → notes_in (set_value (has_bytes key) es fate) k ≡ marked key fate (notes_in es) k
  set_marks es =
      by_key key (λ k. notes_in (set_value (has_bytes key) es fate) k ≡ marked key fate (notes_in es) k)
      (set_own es ∙ sym (marked_own (notes_in es)))
      (λ k other. set_other k other es ∙ sym (marked_another (notes_in es) k other))

module _ (key : Vec ℕ) (fate : Fate) where
  pub insert_own : (es : List (Vec ℕ × Fate)) → notes_in (insert_entry by_items es key fate) key.items ≡ Some fate
  insert_own [] = ap (λ b. cond b (Some fate) None) (its_own key)
  insert_own (e ∷ es) = grind (arith, common_steps, its_own key, insert_own es)

  insert_other : (k : List ℕ) → key.items ≢ k → (es : List (Vec ℕ × Fate)) → notes_in (insert_entry by_items es key fate) k ≡ notes_in es k
  insert_other k other [] = ap (λ b. cond b (Some fate) None) (no_other key.items k key other (its_own key))
  insert_other k other (e ∷ es) =
      grind (arith, common_steps, no_other key.items k key other (its_own key), its_own key, no_other key.items k e.0 other, insert_other k other es)

no_note : (o : Option Fate) → is_some o ≡ false → o ≡ None
no_note None is = refl
no_note (Some fate) is = cc

-- a note that says what its want says
pub added_fates : (key : Vec ℕ) (es : List (Vec ℕ × Fate)) → is_some (notes_in es key.items) ≡ false → (k : List ℕ) → fate_in (notes_in (insert_entry by_items es key Never)) k ≡ fate_in (notes_in es) k
added_fates key es missing = grind (arith, common_steps, no_note (notes_in es key.items) missing, by_key key.items, insert_own key Never es, insert_other key Never)
