-- The words of an item, loaded one after another.
use Rattle.std.proofs.Common.{◌≡◌, ◌≢◌, ℕ, ◌+◌, ◌<◌, ◌≤◌, List, length, slice_index, refl, sym, ap, ◌∙◌, subst, arith}
use Rattle.std.specs.Prelude.{Bool, true, false, is_some, MatchBool}
use Rattle.mica_words.specs.declared.item.TheConstants.{MAX_STORED_LEN}
use Rattle.mica_words.specs.Hash.{hash_of}
use Rattle.mica_words.specs.Header.{header_key_len, header_value_len}
use Rattle.mica_words.specs.Item.{words_for}
use Rattle.mica_words.specs.Packing.{packed, unpacked}
use Rattle.mica_words.proofs.PackedBytes.{length-packed}
use Rattle.partition_words.specs.declared.shape.Shape.{Shape}
use Rattle.partition_words.specs.declared.reader.ReaderState.{ReaderState}
use Rattle.partition_words.specs.Layout.{item_at}
use Rattle.partition_words.specs.ReaderState.{loaded}
use Rattle.partition_words.specs.Spelt.{HasLoad, ShowsOther, by_key_len, by_value_len, by_hash, by_key_word, ShowsItem}
use Rattle.optimistic_get.specs.Loading.{loads_in, GoesOn, HasLoadedWords, LacksWord, HasKeyOf, HoldsValue}
use Rattle.optimistic_get.proofs.Loads.{on_none, on_load, on_then, on_open, on_shape, item_here, item_still, words_still}

pub on_one : (r q : ReaderState) (place x : ℕ) → is_some r.current ≡ true → q ≡ loaded place x r → GoesOn r 1 q
on_one r q place x trying is = on_load r r q 0 place x (on_none r trying) is

module _ (r q : ReaderState) (p header : ℕ) (key : List ℕ) (trying : is_some r.current ≡ true) (one : q ≡ loaded (item_at r.shape p) header r) where
  pub other_key_len : header_key_len header ≢ length key → ShowsOther q.shape (loads_in q) p key
  other_key_len n = by_key_len header (item_here r q p header trying one) n

  pub long_value : MAX_STORED_LEN < header_value_len header → ShowsOther q.shape (loads_in q) p key
  long_value more = by_value_len header (item_here r q p header trying one) more

  after_one : is_some q.current ≡ true
  after_one = on_open r q 1 (on_one r q _ header trying one)

  module _ (q2 : ReaderState) (x : ℕ) (two : q2 ≡ loaded (item_at q.shape (p + 1)) x q) where
    pub on_two : GoesOn r 2 q2
    on_two = on_load r q q2 1 _ x (on_one r q _ header trying one) two

    pub other_hash : x ≢ hash_of q2.shape.hashing key → ShowsOther q2.shape (loads_in q2) p key
    other_hash n = by_hash x (item_here q q2 (p + 1) x after_one two) n

    module _ (q3 : ReaderState) (three : GoesOn q2 (words_for (length key)) q3) where
      pub on_three : GoesOn r (2 + words_for (length key)) q3
      on_three = on_then r q2 q3 2 (words_for (length key)) on_two three

      pub other_word : LacksWord q3 (p + 2) (packed key) → ShowsOther q3.shape (loads_in q3) p key
      other_word lacks =
          let inside = lacks.inside in
          by_key_word lacks.at lacks.found (omega (arith, length-packed key)) lacks.load lacks.other

      pub has_key : header_key_len header ≡ length key → header_value_len header ≤ MAX_STORED_LEN → x ≡ hash_of q3.shape.hashing key → HasLoadedWords q3 (p + 2) (packed key)
          → HasKeyOf q3 p key (header_value_len header)
      has_key key_len fits hash has = record {
        header = header;
        header_load = item_still q2 q3 (words_for (length key)) p header three
            (item_still q q2 1 p header (on_one q q2 _ x after_one two) (item_here r q p header trying one));
        key_len = key_len;
        value_len = refl;
        fits = fits;
        hash = item_still q2 q3 (words_for (length key)) (p + 1) (hash_of q3.shape.hashing key) three
            (subst (HasLoad (loads_in q2) (item_at q2.shape (p + 1))) hash (item_here q q2 (p + 1) x after_one two));
        words = has;
      }

-- the key and the value behind it are an item of the key
pub tells_item : (q q' : ReaderState) (n p at len : ℕ) (key value : List ℕ) → HasKeyOf q p key len → GoesOn q n q' → at ≡ p + 2 + words_for (length key)
    → HoldsValue q' at len value → ShowsItem q'.shape (loads_in q') p key value
tells_item q q' n p at len key value has g place holds = record {
  header = has.header;
  header_load = item_still q q' n p has.header g has.header_load;
  key_len = has.key_len;
  value_len = has.value_len ∙ sym holds.long;
  hash = subst (λ (z : Shape). HasLoad (loads_in q') (item_at q'.shape (p + 1)) (hash_of z.hashing key)) (sym (on_shape q q' n g))
      (item_still q q' n (p + 1) (hash_of q.shape.hashing key) g has.hash);
  key_words = λ i l. words_still q q' n (p + 2) (packed key) g has.words i (omega (arith, length-packed key));
  words = holds.words;
  words_len = holds.enough ∙ ap words_for (sym holds.long);
  value_words = λ i l. subst (λ (z : ℕ). HasLoad (loads_in q') (item_at q'.shape (z + i)) (slice_index holds.words i)) place (holds.load i l);
  held = ap (λ (z : ℕ). unpacked z holds.words) holds.long ∙ sym holds.held;
}

pub when_true : (X Y : Type 0) (b : Bool) → b ≡ true → MatchBool b X Y → X
when_true X Y true is h = h
when_true X Y false is h = cc

pub when_false : (X Y : Type 0) (b : Bool) → b ≡ false → MatchBool b X Y → Y
when_false X Y true is h = cc
when_false X Y false is h = h
