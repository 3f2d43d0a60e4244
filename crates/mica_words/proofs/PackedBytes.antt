-- Packing and unpacking: what each word holds, and that each undoes the other.
use Rattle.std.proofs.Common.{◌≡◌, ℕ, zero, suc, ◌+◌, ◌-◌, ◌*◌, ◌/◌, ◌%◌, ◌^◌, ◌<◌, ◌≤◌, List, [], ◌∷◌, ◌++◌, length, take, drop, replicate, flat_map, slice_index, refl, sym, ap, ◌∙◌, subst, arith, inl, inr, append_assoc, length-drop, rules}
use Rattle.std.proofs.lemmas.Bool.{cases_lt}
use Rattle.std.proofs.lemmas.Grind.{same_number_lists}
use Rattle.std.proofs.lemmas.List.{append-nil, drop-drop, get_or-drop, length-take, length-take-le, take-append-drop, take_all}
use Rattle.std.proofs.lemmas.List.Concat.{flat_map-cons}
use Rattle.std.proofs.Math.Nat.{div-div-eq-div-mul, pow-succ'}
use Rattle.std.proofs.Math.Seq.{take-append-add, take-append_seam, take-length}
use Rattle.std.specs.Int.{w64, byte_at, bytes_low_first, to_le_bytes}
use Rattle.std.proofs.lemmas.Grind.{common_steps}
use Rattle.byteorder.specs.Endian.{little_from}
use Rattle.byteorder.specs.Numbers.{little_from-cons}
use Rattle.mica_words.specs.Item.{words_for}
use Rattle.mica_words.specs.Packing.{AreBytes, little, packed_words, packed, unpacked}

-- the number in the first n bytes
pub little_is : (n : ℕ) (bytes : List ℕ) → little_from 0 n bytes ≡ little (take n bytes)
little_is zero bytes = refl
little_is (suc n) [] = let rest = nothing 0 (suc n) in rest
  where
    nothing : (i k : ℕ) → little_from i k [] ≡ 0
    nothing i zero = refl
    nothing i (suc k) = let rest = nothing (suc i) k in omega arith
little_is (suc n) (byte ∷ bytes) =
    ap (λ (z : ℕ). byte + 256 * z) (little_from-cons 0 n byte bytes ∙ little_is n bytes)

-- each of the packed words, by its bytes
packed_word : (n k : ℕ) (bytes : List ℕ) → k < n → slice_index (packed_words n bytes) k ≡ little (take 8 (drop (8 * k) bytes))
packed_word zero k bytes h = absurd (omega arith)
packed_word (suc n) zero bytes h = refl
packed_word (suc n) (suc k) bytes h = search (rules, packed_word n k (drop 8 bytes) (omega arith), drop-drop (8 * k) 8 bytes)

length-packed_words : (n : ℕ) (bytes : List ℕ) → length (packed_words n bytes) ≡ n
length-packed_words zero bytes = refl
length-packed_words (suc n) bytes = let rest = length-packed_words n (drop 8 bytes) in omega arith

pub length-packed : (bytes : List ℕ) → length (packed bytes) ≡ words_for (length bytes)
unfolding packed
length-packed bytes = length-packed_words (words_for (length bytes)) bytes

pub packed_at : (bytes : List ℕ) (k : ℕ) → k < words_for (length bytes) → slice_index (packed bytes) k ≡ little (take 8 (drop (8 * k) bytes))
unfolding packed
packed_at bytes k below = packed_word (words_for (length bytes)) k bytes below

-- so a word is read from the bytes at its place, 8 of them or as many as are left
module _ (bytes rest : List ℕ) (k : ℕ) (below : k < words_for (length bytes)) (is : rest ≡ drop (8 * k) bytes) where
  pub whole_word : little_from 0 8 rest ≡ slice_index (packed bytes) k
  whole_word = little_is 8 rest ∙ (ap (λ (z : List ℕ). little (take 8 z)) is ∙ sym (packed_at bytes k below))

  pub last_word : length rest < 8 → little_from 0 (length rest) rest ≡ slice_index (packed bytes) k
  last_word short = grind (arith, common_steps, little_is (length rest) rest, take-length rest, take_all 8 rest (omega arith), packed_at bytes k below)

-- words that hold the bytes in turn are the packed ones
pub are_packed : (bytes words : List ℕ) → length words ≡ words_for (length bytes)
    → ((k : ℕ) → k < length words → slice_index words k ≡ little (take 8 (drop (8 * k) bytes))) → words ≡ packed bytes
unfolding packed
are_packed bytes words same each =
    grind (arith, common_steps, same_number_lists words (packed bytes) (same ∙ sym (length-packed bytes)), length-packed bytes, packed_word (words_for (length bytes)))

-- the bytes of a number from the second on are those of its 256th part
byte_at_next : (i number : ℕ) → byte_at (suc i) number ≡ byte_at i (number / 256)
byte_at_next zero number = refl
byte_at_next (suc i) number = grind (arith, common_steps, pow-succ' 256 (suc i), div-div-eq-div-mul number 256 (256 ^ suc i))

bytes_next : (i n number : ℕ) → bytes_low_first (suc i) n number ≡ bytes_low_first i n (number / 256)
bytes_next i zero number = refl
bytes_next i (suc n) number = cc (byte_at_next i number, bytes_next (suc i) n number)

bytes_of_zero : (n : ℕ) → bytes_low_first 0 n 0 ≡ replicate n 0
bytes_of_zero zero = refl
bytes_of_zero (suc n) = ap (λ (z : List ℕ). 0 ∷ z) (bytes_next 0 n 0 ∙ bytes_of_zero n)

-- a number gives its bytes back, with zeros above them
bytes_of_little : (n : ℕ) (bytes : List ℕ) → AreBytes bytes → length bytes ≤ n → bytes_low_first 0 n (little bytes) ≡ bytes ++ replicate (n - length bytes) 0
bytes_of_little n [] small few = grind (arith, common_steps, bytes_of_zero n)
bytes_of_little zero (byte ∷ bytes) small few = absurd (omega arith)
bytes_of_little (suc n) (byte ∷ bytes) small few =
    let low : byte < 256 = small 0 in
    let first : (byte + 256 * little bytes) % 256 ≡ byte = omega arith in
    let above : (byte + 256 * little bytes) / 256 ≡ little bytes = omega arith in
    let rest = bytes_of_little n bytes (λ k. small (suc k)) (omega arith) in
    let zeros : suc n - length (byte ∷ bytes) ≡ n - length bytes = omega arith in
    let tail : bytes_low_first 1 n (byte + 256 * little bytes) ≡ bytes ++ replicate (n - length bytes) 0 =
    bytes_next 0 n (byte + 256 * little bytes) ∙ ap (bytes_low_first 0 n) above ∙ rest in
    cc

few_taken : (n : ℕ) (xs : List ℕ) → length (take n xs) ≤ n
few_taken n xs = omega (arith, length-take n xs)

pub AreBytes-take : (n : ℕ) (bytes : List ℕ) → AreBytes bytes → AreBytes (take n bytes)
AreBytes-take zero bytes small k = omega arith
AreBytes-take (suc n) [] small k = omega arith
AreBytes-take (suc n) (byte ∷ bytes) small zero = small 0
AreBytes-take (suc n) (byte ∷ bytes) small (suc k) = AreBytes-take n bytes (λ j. small (suc j)) k

pub AreBytes-drop : (n : ℕ) (bytes : List ℕ) → AreBytes bytes → AreBytes (drop n bytes)
AreBytes-drop n bytes small k = rw get_or-drop (small (n + k))

-- words of n pieces give their bytes back
words_give_back : (n : ℕ) (bytes : List ℕ) → AreBytes bytes → length bytes ≤ 8 * n → take (length bytes) (flat_map (to_le_bytes w64) (packed_words n bytes)) ≡ bytes
words_give_back zero [] small few = refl
words_give_back zero (byte ∷ bytes) small few = absurd (omega arith)
words_give_back (suc n) bytes small few =
    let word = little (take 8 bytes) in
    let more = flat_map (to_le_bytes w64) (packed_words n (drop 8 bytes)) in
    let first : to_le_bytes w64 word ≡ take 8 bytes ++ replicate (8 - length (take 8 bytes)) 0 =
    bytes_of_little 8 (take 8 bytes) (AreBytes-take 8 bytes small) (few_taken 8 bytes) in
    let pieces : flat_map (to_le_bytes w64) (packed_words (suc n) bytes) ≡ (take 8 bytes ++ replicate (8 - length (take 8 bytes)) 0) ++ more =
    flat_map-cons (to_le_bytes w64) word (packed_words n (drop 8 bytes)) ∙ ap (λ (z : List ℕ). z ++ more) first in
    ap (take (length bytes)) pieces ∙ elim (cases_lt (length bytes) 8) [
      | inl short ↦
          let all : take 8 bytes ≡ bytes = take_all 8 bytes (omega arith) in
          subst (λ (z : List ℕ). take (length bytes) ((z ++ replicate (8 - length z) 0) ++ more) ≡ bytes) (sym all)
          (ap (take (length bytes)) (append_assoc bytes (replicate (8 - length bytes) 0) more)
          ∙ take-append_seam bytes (replicate (8 - length bytes) 0 ++ more))
      | inr long ↦
          let eight : length (take 8 bytes) ≡ 8 = length-take-le 8 bytes long in
          let none : 8 - length (take 8 bytes) ≡ 0 = omega arith in
          let left = length-drop 8 bytes in
          let count : length bytes ≡ length (take 8 bytes) + length (drop 8 bytes) = omega arith in
          let rest = words_give_back n (drop 8 bytes) (AreBytes-drop 8 bytes small) (omega arith) in
          ap (λ (z : ℕ). take (length bytes) ((take 8 bytes ++ replicate z 0) ++ more)) none
          ∙ (ap (λ (z : List ℕ). take (length bytes) (z ++ more)) (append-nil (take 8 bytes))
          ∙ (ap (λ (z : ℕ). take z (take 8 bytes ++ more)) count
          ∙ (take-append-add (take 8 bytes) more (length (drop 8 bytes))
          ∙ (ap (λ (z : List ℕ). take 8 bytes ++ z) rest ∙ take-append-drop 8 bytes))))
    ]

-- unpacking undoes packing
pub unpacked-packed : (bytes : List ℕ) → AreBytes bytes → unpacked (length bytes) (packed bytes) ≡ bytes
unfolding packed unpacked
unpacked-packed bytes small = words_give_back (words_for (length bytes)) bytes small (omega arith)

-- the words of a text of known length determine it
pub same_from_words : (bytes others : List ℕ) → AreBytes bytes → AreBytes others → length bytes ≡ length others → packed bytes ≡ packed others → bytes ≡ others
same_from_words bytes others small fewer same words = grind (arith, common_steps, unpacked-packed bytes small, unpacked-packed others fewer)

pub length-words : (words : List ℕ) → length (flat_map (to_le_bytes w64) words) ≡ 8 * length words
length-words [] = refl
length-words (word ∷ words) = grind (arith, common_steps, length-words words)
