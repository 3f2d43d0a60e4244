-- The bytes in the words of an item.
use Rattle.std.proofs.Common.{◌≡◌, ℕ, ◌+◌, ◌<◌, ◌≤◌, List, Bool, true, false, ◌&&◌, ◌^◌, length, take, slice_index, refl, sym, ap, ◌∙◌, subst, arith}
use Rattle.std.specs.Prelude.{nat_lt, nat_le}
use Rattle.std.proofs.lemmas.Bool.{ltb-true, leb-true}
use Rattle.std.proofs.lemmas.List.{length-take-le}
use Rattle.mica_words.specs.Header.{header_of, header_key_len, header_value_len}
use Rattle.mica_words.specs.Item.{words_for}
use Rattle.mica_words.specs.Packing.{AreBytes, packed, unpacked}
use Rattle.mica_words.proofs.Fields.{header_key_len-header_of, header_value_len-header_of}
use Rattle.mica_words.proofs.ItemWords.{packed_key_word, value_word, same_value}
use Rattle.partition_model.specs.Store.{Cell}
use Rattle.partition_words.specs.declared.state.OwnerState.{OwnerState}
use Rattle.partition_words.specs.OwnerState.{item_in, options_in}
use Rattle.partition_words.specs.Kept.{Kept}
use Rattle.partition_words.specs.StandsFor.{Spells}
use Rattle.partition_words.proofs.Keys.{header_there}
use Rattle.partition_words.proofs.Machine.{Fits, has_fits}
use Rattle.mica_words.specs.Entry.{entry_offset}
use Rattle.circular_log.specs.LogItem.{words_from}
use Rattle.circular_log.proofs.LoadedValue.{bytes_from, length-bytes_from, length-words_from, word_from}
use Rattle.partition_walk.specs.PairAt.{bytes_in, key_at, value_at, is_item}

-- what was read of so many words, cut to a length
pub bytes_read : (o : OwnerState) (p n len : ℕ) (bytes : List ℕ) → n ≡ words_for len → bytes ≡ bytes_from o p n → take len bytes ≡ bytes_in o p len
unfolding unpacked
bytes_read o p n len bytes count is = ap (take len) (is ∙ ap (bytes_from o p) count)

-- so many
pub length-bytes_in : (o : OwnerState) (p len : ℕ) → length (bytes_in o p len) ≡ len
unfolding unpacked
length-bytes_in o p len = length-take-le len (bytes_from o p (words_for len)) (omega (arith, length-bytes_from o p (words_for len)))

-- the lengths in the header of an item
all_three : (a b c : Bool) → (a && b && c) ≡ true → (b ≡ true) × (c ≡ true)
all_three true true true is = (refl, refl)
all_three true true false is = absurd cc
all_three true false c is = absurd cc
all_three false b c is = absurd cc

pub item_lengths : (o : OwnerState) (p header : ℕ) → is_item o p ≡ true → header ≡ item_in o p → (0 < header_key_len header) × (header_value_len header ≤ 1048592)
item_lengths o p header is at =
    let fits = all_three (nat_lt p (2 ^ 48)) (nat_lt 0 (header_key_len (item_in o p))) (nat_le (header_value_len (item_in o p)) 1048592) is in (
      subst (λ (h : ℕ). 0 < header_key_len h) (sym at) (ltb-true 0 (header_key_len (item_in o p)) fits.0),
      subst (λ (h : ℕ). header_value_len h ≤ 1048592) (sym at) (leb-true (header_value_len (item_in o p)) 1048592 fits.1),
    )

-- words that are those of packed bytes
bytes_there : (o : OwnerState) (p : ℕ) (bytes : List ℕ) → AreBytes bytes → ((i : ℕ) → i < words_for (length bytes) → item_in o (p + i) ≡ slice_index (packed bytes) i) → bytes_in o p (length bytes) ≡ bytes
bytes_there o p bytes small words =
    let long = length-words_from o p (words_for (length bytes)) in
    same_value bytes (words_from o p (words_for (length bytes))) small long
    (λ i below. word_from o p (words_for (length bytes)) i (omega arith) ∙ words i (omega arith))

-- the pair of an item that an entry spells
module _ (o : OwnerState) (s : Kept o) (b entry : ℕ) (key : List ℕ) (cell : Cell) (sp : Spells o b entry key cell) where
  abbrev at : ℕ
  at = entry_offset entry

  pub fits : Fits key cell
  fits = has_fits (options_in o) o.history s.history.writes key cell (entry_offset entry) sp.has

  header : item_in o at ≡ header_of cell.room (length key) (length cell.value)
  header = header_there o (entry_offset entry) key cell sp.item

  pub key_len : header_key_len (item_in o at) ≡ length key
  key_len = ap header_key_len header ∙ header_key_len-header_of cell.room (length key) (length cell.value) fits.5 (omega (arith, fits.0))

  pub value_len : header_value_len (item_in o at) ≡ length cell.value
  value_len = ap header_value_len header ∙ header_value_len-header_of cell.room (length key) (length cell.value) fits.5 (omega (arith, fits.0))

  key_words : (i : ℕ) → i < words_for (length key) → item_in o (at + 2 + i) ≡ slice_index (packed key) i
  key_words i l = ap (item_in o) (omega arith) ∙ (sp.item (2 + i) (omega arith) ∙ packed_key_word o.shape.hashing cell.room key cell.value i l)

  value_words : (i : ℕ) → i < words_for (length cell.value) → item_in o (at + 2 + words_for (length key) + i) ≡ slice_index (packed cell.value) i
  value_words i l = ap (item_in o) (omega arith) ∙ (sp.item (2 + words_for (length key) + i) (omega arith) ∙ value_word o.shape.hashing cell.room key cell.value i l)

  pub key_is : key_at o at ≡ key
  key_is = ap (bytes_in o (at + 2)) key_len ∙ bytes_there o (at + 2) key fits.1 key_words

  pub value_is : value_at o at ≡ cell.value
  value_is =
      ap (λ (k : ℕ). bytes_in o (at + 2 + words_for k) (header_value_len (item_in o at))) key_len
      ∙ ap (bytes_in o (at + 2 + words_for (length key))) value_len
      ∙ bytes_there o (at + 2 + words_for (length key)) cell.value fits.3 value_words
