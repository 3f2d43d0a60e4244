-- What stands at each place of an item, and that it determines the key and the value.
use Rattle.std.proofs.Common.{◌≡◌, ℕ, ◌+◌, ◌<◌, List, [], ◌∷◌, ◌++◌, length, slice_index, refl, sym, ap, ◌∙◌, arith, length-append}
use Rattle.std.proofs.lemmas.Grind.{same_number_lists}
use Rattle.std.proofs.lemmas.List.{get_or_append_left, get_or-append-add}
use Rattle.std.proofs.lemmas.Grind.{common_steps}
use Rattle.mica_words.specs.declared.hashing.Hashing.{Hashing}
use Rattle.mica_words.specs.Hash.{hash_of}
use Rattle.mica_words.specs.Header.{header_of}
use Rattle.mica_words.specs.Item.{words_for, item_size}
use Rattle.mica_words.specs.Packing.{AreBytes, packed, unpacked}
use Rattle.mica_words.specs.Spelling.{item_words}
use Rattle.mica_words.proofs.PackedBytes.{length-packed, unpacked-packed}

pub length-item_words : (hashing : Hashing) (room : ℕ) (key value : List ℕ) → length (item_words hashing room key value) ≡ item_size key value
unfolding item_words
length-item_words hashing room key value = grind (arith, common_steps, length-append (packed key) (packed value), length-packed key, length-packed value)

pub item_words_are : (hashing : Hashing) (room : ℕ) (key value : List ℕ)
    → item_words hashing room key value ≡ header_of room (length key) (length value) ∷ hash_of hashing key ∷ (packed key ++ packed value)
unfolding item_words
item_words_are hashing room key value = refl

pub header_word : (hashing : Hashing) (room : ℕ) (key value : List ℕ) → slice_index (item_words hashing room key value) 0 ≡ header_of room (length key) (length value)
unfolding item_words
header_word hashing room key value = refl

pub hash_word : (hashing : Hashing) (room : ℕ) (key value : List ℕ) → slice_index (item_words hashing room key value) 1 ≡ hash_of hashing key
unfolding item_words
hash_word hashing room key value = refl

pub packed_key_word : (hashing : Hashing) (room : ℕ) (key value : List ℕ) (i : ℕ) → i < words_for (length key) → slice_index (item_words hashing room key value) (2 + i) ≡ slice_index (packed key) i
unfolding item_words
packed_key_word hashing room key value i below =
    get_or-append-add (header_of room (length key) (length value) ∷ hash_of hashing key ∷ []) (packed key ++ packed value) i 0
    ∙ get_or_append_left (packed key) (packed value) 0 i (omega (arith, length-packed key))

pub value_word : (hashing : Hashing) (room : ℕ) (key value : List ℕ) (i : ℕ) → i < words_for (length value)
    → slice_index (item_words hashing room key value) (2 + words_for (length key) + i) ≡ slice_index (packed value) i
unfolding item_words
value_word hashing room key value i below =
    grind (
      arith,
      common_steps,
      length-packed key,
      get_or-append-add (header_of room (length key) (length value) ∷ hash_of hashing key ∷ []) (packed key ++ packed value) (length (packed key) + i) 0,
      get_or-append-add (packed key) (packed value) i 0,
    )

-- words that hold the packed value unpack to it
pub same_value : (value words : List ℕ) → AreBytes value → length words ≡ words_for (length value)
    → ((i : ℕ) → i < length words → slice_index words i ≡ slice_index (packed value) i) → unpacked (length value) words ≡ value
same_value value words small same each =
    ap (unpacked (length value)) (same_number_lists words (packed value) (same ∙ sym (length-packed value)) each) ∙ unpacked-packed value small
