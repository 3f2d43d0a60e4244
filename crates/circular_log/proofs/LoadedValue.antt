-- The bytes of the words that were loaded are the value of the item.
use Rattle.std.proofs.Common.{rules}
use Rattle.std.proofs.lemmas.Grind.{common_steps, flat_map-append}
use Rattle.std.proofs.Common.{◌≡◌, ℕ, zero, suc, ◌+◌, ◌*◌, ◌<◌, List, [], ◌∷◌, ◌++◌, length, take, flat_map, get_or, add-zero, append_assoc, refl, sym, ap, ◌∙◌, arith, length-append}
use Rattle.std.proofs.lemmas.Bool.{cases_lt}
use Rattle.std.proofs.lemmas.List.{get_or_append_left}
use Rattle.std.proofs.Math.ListN.{set}
use Rattle.std.proofs.Math.Numerals.{add-one}
use Rattle.std.proofs.Math.Seq.{get_or-append_seam, take-suc-set}
use Rattle.std.specs.Int.{w64, to_le_bytes}
use Rattle.mica_words.specs.Header.{header_of, header_key_len, header_value_len}
use Rattle.mica_words.specs.Item.{words_for}
use Rattle.mica_words.specs.Packing.{packed, unpacked}
use Rattle.mica_words.proofs.ItemWords.{header_word, value_word, same_value}
use Rattle.mica_words.proofs.PackedBytes.{length-words}
use Rattle.partition_model.specs.Store.{Cell}
use Rattle.partition_words.specs.declared.state.OwnerState.{OwnerState}
use Rattle.partition_words.specs.OwnerState.{item_in}
use Rattle.circular_log.specs.LogItem.{IsItem, words_from}

-- their bytes
abbrev pub bytes_from : OwnerState → ℕ → ℕ → List ℕ
bytes_from o p n = flat_map (to_le_bytes w64) (words_from o p n)

pub length-words_from : (o : OwnerState) (p n : ℕ) → length (words_from o p n) ≡ n
length-words_from o p zero = refl
length-words_from o p (suc n) = omega (arith, length-words_from o p n, length-append (words_from o p n) (item_in o (p + n) ∷ []))

pub word_from : (o : OwnerState) (p n k : ℕ) → k < n → get_or (words_from o p n) k 0 ≡ item_in o (p + k)
word_from o p zero k below = absurd (omega arith)
word_from o p (suc n) k below =
    grind (arith, length-words_from o p n, cases_lt k n, get_or_append_left (words_from o p n) (item_in o (p + n) ∷ []) 0 k, word_from o p n k, get_or-append_seam (words_from o p n) (item_in o (p + n)) [] 0, item_in o, (length-words_from o p n))

-- a word more is stored in a block
pub block_more : (o : OwnerState) (p i x : ℕ) (block : List ℕ) → i < length block → take i block ≡ words_from o p i → x ≡ item_in o (p + i)
    → take (i + 1) (set block i x) ≡ words_from o p (i + 1)
block_more o p i x block inside so_far is = rw (add-one i) (take-suc-set block i x inside ∙ ap (λ (z : List ℕ). z ++ x ∷ []) so_far ∙ ap (λ (z : ℕ). words_from o p i ++ z ∷ []) is)

-- one word more
pub bytes_more : (o : OwnerState) (p i next : ℕ) → next ≡ suc i → (bytes : List ℕ) → bytes ≡ bytes_from o p i → bytes ++ to_le_bytes w64 (item_in o (p + i)) ≡ bytes_from o p next
bytes_more o p i next more bytes so_far = grind (arith, common_steps)

words_then : (o : OwnerState) (p n k : ℕ) → words_from o p (n + k) ≡ words_from o p n ++ words_from o (p + n) k
words_then o p n zero = grind (arith, common_steps)
words_then o p n (suc k) =
    let next : n + suc k ≡ suc (n + k) = omega arith in
    let place : p + (n + k) ≡ p + n + k = omega arith in
    ap (words_from o p) next
    ∙ (ap (λ (z : List ℕ). z ++ item_in o (p + (n + k)) ∷ []) (words_then o p n k)
    ∙ (append_assoc (words_from o p n) (words_from o (p + n) k) (item_in o (p + (n + k)) ∷ [])
    ∙ ap (λ (z : ℕ). words_from o p n ++ (words_from o (p + n) k ++ item_in o z ∷ [])) place))

-- the bytes of more words
pub bytes_then : (o : OwnerState) (p n k : ℕ) (bytes : List ℕ) → bytes ≡ bytes_from o p n → bytes ++ bytes_from o (p + n) k ≡ bytes_from o p (n + k)
bytes_then o p n k bytes so_far =
    ap (λ (z : List ℕ). z ++ bytes_from o (p + n) k) so_far
    ∙ (sym (flat_map-append (to_le_bytes w64) (words_from o p n) (words_from o (p + n) k))
    ∙ ap (flat_map (to_le_bytes w64)) (sym (words_then o p n k)))

pub length-bytes_from : (o : OwnerState) (p n : ℕ) → length (bytes_from o p n) ≡ 8 * n
length-bytes_from o p n = length-words (words_from o p n) ∙ ap (λ (z : ℕ). 8 * z) (length-words_from o p n)

module _ (o : OwnerState) (p : ℕ) (key : List ℕ) (cell : Cell) (item : IsItem o p key cell) where
  header_is : item_in o p ≡ header_of cell.room (length key) (length cell.value)
  header_is = ap (item_in o) (sym (add-zero p)) ∙ (item.spelt 0 (omega arith) ∙ header_word o.shape.hashing cell.room key cell.value)

  pub key_len_is : (word : ℕ) → word ≡ item_in o p → header_key_len word ≡ length key
  key_len_is word is = search (rules, header_is)

  pub value_len_is : (word : ℕ) → word ≡ item_in o p → header_value_len word ≡ length cell.value
  value_len_is word is = search (rules, header_is)

  value_word_is : (k : ℕ) → k < words_for (length cell.value) → item_in o (p + 2 + words_for (length key) + k) ≡ get_or (packed cell.value) k 0
  value_word_is k below = search (rules, item_in, value_word)

  value_by : (at : ℕ) → at ≡ p + 2 + words_for (length key) → take (length cell.value) (bytes_from o at (words_for (length cell.value))) ≡ cell.value
  unfolding unpacked
  value_by at place =
      let long : length (words_from o at (words_for (length cell.value))) ≡ words_for (length cell.value) =
      length-words_from o at (words_for (length cell.value)) in
      same_value cell.value (words_from o at (words_for (length cell.value))) item.value_bytes long
      (λ k below.
      word_from o at (words_for (length cell.value)) k (omega arith)
      ∙ (ap (λ (z : ℕ). item_in o (z + k)) place ∙ value_word_is k (omega arith)))

  -- the bytes of all the value's words, in the state where they were loaded, begin with the value
  pub value_is : (now : OwnerState) (at n len : ℕ) (bytes : List ℕ) → now ≡ o → at ≡ p + 2 + words_for (length key) → n ≡ words_for (length cell.value)
      → len ≡ length cell.value → bytes ≡ bytes_from now at n → take len bytes ≡ cell.value
  value_is now at n len bytes same place words long is = search (rules, take, value_by)
