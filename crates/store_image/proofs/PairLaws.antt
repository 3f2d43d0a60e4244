-- What the text of a pair tells of it, and that of an image of its pairs.
use Rattle.std.proofs.Common.{rules}
use Rattle.std.proofs.Common.{◌≡◌, ℕ, zero, suc, ◌+◌, List, [], ◌∷◌, ◌++◌, length, drop, refl, sym, ap, ◌∙◌, arith, length-append, append_assoc, append-nil}
use Rattle.std.specs.List.{flat_map, AllByRecursion}
use Rattle.std.proofs.lemmas.List.{take_at, drop_at}
use Rattle.std.proofs.lemmas.Nat.{from_le_bytes-to_le_bytes_4}
use Rattle.store_image.specs.ImageGrammar.{Pair, IsPair, IsImage, pair_text, image_text, SpellsImage, key_len_at, value_len_at, pair_len_at, key_at, value_at, pair_at, after_pair, count_at}
use Rattle.store_image.specs.ImageTexts.{pairs_in, ArePairTexts}

pub key_len_is : (x : Pair) (rest : List ℕ) → key_len_at (pair_text x ++ rest) ≡ length x.key
unfolding pair_text
key_len_is x rest = refl

pub value_len_is : (x : Pair) (rest : List ℕ) → IsPair x → value_len_at (pair_text x ++ rest) ≡ length x.value
unfolding pair_text
value_len_is x rest is = let few = is.1.0 in omega arith

texts_are : (x : Pair) (rest : List ℕ) → drop 3 (pair_text x ++ rest) ≡ x.key ++ (x.value ++ rest)
unfolding pair_text
texts_are x rest = append_assoc x.key x.value rest

pub length-pair_text : (x : Pair) → length (pair_text x) ≡ 3 + length x.key + length x.value
unfolding pair_text
length-pair_text x = omega (arith, length-append x.key x.value)

pub size : (x : Pair) (rest : List ℕ) → IsPair x → pair_len_at (pair_text x ++ rest) ≡ length (pair_text x)
size x rest is = rw (length-pair_text x, key_len_is x rest, value_len_is x rest is) refl

pub key_is : (x : Pair) (rest : List ℕ) → key_at (pair_text x ++ rest) ≡ x.key
key_is x rest = search (rules, take_at, key_len_is, texts_are, length)

pub value_is : (x : Pair) (rest : List ℕ) → IsPair x → value_at (pair_text x ++ rest) ≡ x.value
value_is x rest is = search (rules, drop_at, take_at, key_len_is, value_len_is, texts_are, length)

pub pair_is : (x : Pair) (rest : List ℕ) → IsPair x → pair_at (pair_text x ++ rest) ≡ x
pair_is x rest is = rw (key_is x rest, value_is x rest is) refl

pub behind : (x : Pair) (rest : List ℕ) → IsPair x → after_pair (pair_text x ++ rest) ≡ rest
behind x rest is = drop_at (pair_text x) rest _ (sym (size x rest is))

-- the pairs of a text come back
pub pairs_back : (pairs : List Pair) → AllByRecursion IsPair pairs → pairs_in (length pairs) (flat_map pair_text pairs) ≡ pairs
unfolding pairs_in
pairs_back [] all = refl
pairs_back (x ∷ pairs) all =
    grind (arith, flat_map pair_text pairs, pair_is x (flat_map pair_text pairs) all.0, behind x (flat_map pair_text pairs) all.0, pairs_back pairs all.1)

pub length-pairs_in : (count : ℕ) (bytes : List ℕ) → length (pairs_in count bytes) ≡ count
unfolding pairs_in
length-pairs_in zero bytes = refl
length-pairs_in (suc count) bytes = ap suc (length-pairs_in count (after_pair bytes))

-- bytes that spell an image say its pairs
pub spelled_pairs : (text : List ℕ) (pairs : List Pair) → SpellsImage text pairs → pairs_in (count_at text) (drop 9 text) ≡ pairs
unfolding image_text
spelled_pairs text pairs is = search (rules, pairs_in, from_le_bytes-to_le_bytes_4, pairs_back, count_at, drop, flat_map, length)

pub one_image : (text : List ℕ) (a b : List Pair) → SpellsImage text a → SpellsImage text b → a ≡ b
one_image text a b p q = sym (spelled_pairs text a p) ∙ spelled_pairs text b q

pub one_text : (s t : List ℕ) (pairs : List Pair) → SpellsImage s pairs → SpellsImage t pairs → s ≡ t
one_text s t pairs p q = p.text ∙ sym q.text

-- the texts of an image's pairs are kept as such
pub kept_texts : (count : ℕ) (texts : List ℕ) (pairs : List Pair) → IsImage pairs → count ≡ length pairs → texts ≡ flat_map pair_text pairs → ArePairTexts count texts × (pairs_in count texts ≡ pairs)
kept_texts count texts pairs image many is = search (rules, pairs_in, pairs_back, IsImage, image, is, flat_map, length)

-- and so are they once no pair is left
pub kept_all : (count : ℕ) (texts : List ℕ) (left pairs : List Pair) → IsImage pairs → left ≡ [] → count + length left ≡ length pairs → texts ++ flat_map pair_text left ≡ flat_map pair_text pairs
    → ArePairTexts count texts × (pairs_in count texts ≡ pairs)
kept_all count texts left pairs image none many is = search (rules, kept_texts, append-nil, none, is)
