-- Eight bytes that are written in turn go in as one word, and fewer make the tail.
use Rattle.std.proofs.Common.{◌≡◌, ℕ, ◌+◌, ◌*◌, ◌%◌, ◌^◌, ◌<◌, ◌≤◌, List, [], ◌∷◌, length, take, drop, get_or, refl, sym, ap, ◌∙◌, arith}
use Rattle.std.specs.Prelude.{bit_or}
use Rattle.std.proofs.lemmas.Nat.{or_comm, or_shifted, shl_whole}
use Rattle.std.proofs.lemmas.Bool.{eq-eqb, ne_eqb}
use Rattle.std.proofs.lemmas.List.{length-take-le, take-append-drop}
use Rattle.std.proofs.lemmas.List.Sums.{fold-append, fold_more}
use Rattle.std.specs.List.{fold}
use Rattle.std.specs.Int.{w64, from_le_bytes}
use Rattle.std.specs.declared.hash.DefaultHasher.{DefaultHasher}
use Rattle.std.specs.Hash.DefaultHasher.{wrapping_add, with_byte, write_byte, write_word, write}
use Rattle.keyed_hash.specs.declared.mixed.Mixed.{Mixed}
use Rattle.keyed_hash.specs.SipHash.{hasher_of, IsTail}

-- a byte above what there is of a word
byte_above : (low k byte : ℕ) → low < 2 ^ k → byte < 2 ^ 8 → 8 + k ≤ 64 → bit_or low ((byte * 2 ^ k) % 2 ^ 64) ≡ low + byte * 2 ^ k
byte_above low k byte below small within =
    let sum : byte * 2 ^ k + low ≡ low + byte * 2 ^ k = omega arith in
    ap (bit_or low) (shl_whole byte 8 k 64 small within) ∙ or_comm low (byte * 2 ^ k) ∙ or_shifted byte k low below ∙ sum

-- a byte that fills no word
byte_aside : (mixed : Mixed) (tail before after place byte : ℕ) → before % 8 ≡ place → after ≡ before + 1 → after < 2 ^ 64 → place < 7
    → write_byte (hasher_of mixed tail before) byte ≡ hasher_of mixed (with_byte tail place byte) after
unfolding write_byte
byte_aside mixed tail before after place byte here is fits few =
    let next : wrapping_add before 1 ≡ after = omega arith in
    let more : after % 8 ≡ 0 → ⊥ = omega arith in
    rw (here, next, ne_eqb (after % 8) 0 more)

abbrev emptied : DefaultHasher → DefaultHasher
emptied s = record { v0 = s.v0; v1 = s.v1; v2 = s.v2; v3 = s.v3; tail = 0; length = s.length }

-- the byte that fills a word, so that it goes in
byte_last : (mixed next : Mixed) (tail before after byte word : ℕ) → before % 8 ≡ 7 → after ≡ before + 1 → after < 2 ^ 64 → with_byte tail 7 byte ≡ word
    → ((rest n : ℕ) → hasher_of next rest n ≡ write_word (hasher_of mixed rest n) word) → write_byte (hasher_of mixed tail before) byte ≡ hasher_of next 0 after
unfolding write_byte
byte_last mixed next tail before after byte word here is fits makes goes =
    let step : wrapping_add before 1 ≡ after = omega arith in
    let whole : after % 8 ≡ 0 = omega arith in
    let goes_in : write_word (hasher_of mixed (with_byte tail 7 byte) after) (with_byte tail 7 byte) ≡ hasher_of next (with_byte tail 7 byte) after =
    ap (write_word (hasher_of mixed (with_byte tail 7 byte) after)) makes ∙ sym (goes (with_byte tail 7 byte) after) in
    rw (here, step, eq-eqb (after % 8) 0 whole) (ap emptied goes_in)

module _ (b0 b1 b2 b3 b4 b5 b6 b7 : ℕ)
    (h0 : b0 < 256) (h1 : b1 < 256) (h2 : b2 < 256) (h3 : b3 < 256) (h4 : b4 < 256) (h5 : b5 < 256) (h6 : b6 < 256) (h7 : b7 < 256) where
  abbrev t1 : ℕ
  t1 = with_byte 0 0 b0

  abbrev t2 : ℕ
  t2 = with_byte t1 1 b1

  abbrev t3 : ℕ
  t3 = with_byte t2 2 b2

  abbrev t4 : ℕ
  t4 = with_byte t3 3 b3

  abbrev t5 : ℕ
  t5 = with_byte t4 4 b4

  abbrev t6 : ℕ
  t6 = with_byte t5 5 b5

  abbrev t7 : ℕ
  t7 = with_byte t6 6 b6

  abbrev t8 : ℕ
  t8 = with_byte t7 7 b7

  -- the word that eight bytes make one by one is the number in them
  word_made : t8 ≡ b0 + b1 * 2 ^ 8 + b2 * 2 ^ 16 + b3 * 2 ^ 24 + b4 * 2 ^ 32 + b5 * 2 ^ 40 + b6 * 2 ^ 48 + b7 * 2 ^ 56
  word_made =
      let none : 0 + b0 * 2 ^ 0 ≡ b0 = omega arith in
      let one : t1 ≡ b0 = byte_above 0 0 b0 (omega arith) (omega arith) (omega arith) ∙ none in
      let two : t2 ≡ b0 + b1 * 2 ^ 8 = ap (λ (low : ℕ). with_byte low 1 b1) one ∙ byte_above b0 8 b1 (omega arith) (omega arith) (omega arith) in
      let three : t3 ≡ b0 + b1 * 2 ^ 8 + b2 * 2 ^ 16 = ap (λ (low : ℕ). with_byte low 2 b2) two ∙ byte_above (b0 + b1 * 2 ^ 8) 16 b2 (omega arith) (omega arith) (omega arith) in
      let four : t4 ≡ b0 + b1 * 2 ^ 8 + b2 * 2 ^ 16 + b3 * 2 ^ 24 =
      ap (λ (low : ℕ). with_byte low 3 b3) three ∙ byte_above (b0 + b1 * 2 ^ 8 + b2 * 2 ^ 16) 24 b3 (omega arith) (omega arith) (omega arith) in
      let five : t5 ≡ b0 + b1 * 2 ^ 8 + b2 * 2 ^ 16 + b3 * 2 ^ 24 + b4 * 2 ^ 32 =
      ap (λ (low : ℕ). with_byte low 4 b4) four ∙ byte_above (b0 + b1 * 2 ^ 8 + b2 * 2 ^ 16 + b3 * 2 ^ 24) 32 b4 (omega arith) (omega arith) (omega arith) in
      let six : t6 ≡ b0 + b1 * 2 ^ 8 + b2 * 2 ^ 16 + b3 * 2 ^ 24 + b4 * 2 ^ 32 + b5 * 2 ^ 40 =
      ap (λ (low : ℕ). with_byte low 5 b5) five ∙ byte_above (b0 + b1 * 2 ^ 8 + b2 * 2 ^ 16 + b3 * 2 ^ 24 + b4 * 2 ^ 32) 40 b5 (omega arith) (omega arith) (omega arith) in
      let seven : t7 ≡ b0 + b1 * 2 ^ 8 + b2 * 2 ^ 16 + b3 * 2 ^ 24 + b4 * 2 ^ 32 + b5 * 2 ^ 40 + b6 * 2 ^ 48 =
      ap (λ (low : ℕ). with_byte low 6 b6) six
      ∙ byte_above (b0 + b1 * 2 ^ 8 + b2 * 2 ^ 16 + b3 * 2 ^ 24 + b4 * 2 ^ 32 + b5 * 2 ^ 40) 48 b6 (omega arith) (omega arith) (omega arith) in
      ap (λ (low : ℕ). with_byte low 7 b7) seven
      ∙ byte_above (b0 + b1 * 2 ^ 8 + b2 * 2 ^ 16 + b3 * 2 ^ 24 + b4 * 2 ^ 32 + b5 * 2 ^ 40 + b6 * 2 ^ 48) 56 b7 (omega arith) (omega arith) (omega arith)

  eight_bytes : (mixed next : Mixed) (count word : ℕ) → count % 8 ≡ 0 → count + 8 < 2 ^ 64
      → word ≡ b0 + b1 * 2 ^ 8 + b2 * 2 ^ 16 + b3 * 2 ^ 24 + b4 * 2 ^ 32 + b5 * 2 ^ 40 + b6 * 2 ^ 48 + b7 * 2 ^ 56
      → ((rest n : ℕ) → hasher_of next rest n ≡ write_word (hasher_of mixed rest n) word)
      → fold write_byte (hasher_of mixed 0 count) (b0 ∷ (b1 ∷ (b2 ∷ (b3 ∷ (b4 ∷ (b5 ∷ (b6 ∷ (b7 ∷ [])))))))) ≡ hasher_of next 0 (count + 8)
  eight_bytes mixed next count word aligned fits is goes =
      let one = byte_aside mixed 0 count (count + 1) 0 b0 aligned refl (omega arith) (omega arith) in
      let two = ap (λ (h : DefaultHasher). write_byte h b1) one ∙ byte_aside mixed t1 (count + 1) (count + 2) 1 b1 (omega arith) (omega arith) (omega arith) (omega arith) in
      let three = ap (λ (h : DefaultHasher). write_byte h b2) two ∙ byte_aside mixed t2 (count + 2) (count + 3) 2 b2 (omega arith) (omega arith) (omega arith) (omega arith) in
      let four = ap (λ (h : DefaultHasher). write_byte h b3) three ∙ byte_aside mixed t3 (count + 3) (count + 4) 3 b3 (omega arith) (omega arith) (omega arith) (omega arith) in
      let five = ap (λ (h : DefaultHasher). write_byte h b4) four ∙ byte_aside mixed t4 (count + 4) (count + 5) 4 b4 (omega arith) (omega arith) (omega arith) (omega arith) in
      let six = ap (λ (h : DefaultHasher). write_byte h b5) five ∙ byte_aside mixed t5 (count + 5) (count + 6) 5 b5 (omega arith) (omega arith) (omega arith) (omega arith) in
      let seven = ap (λ (h : DefaultHasher). write_byte h b6) six ∙ byte_aside mixed t6 (count + 6) (count + 7) 6 b6 (omega arith) (omega arith) (omega arith) (omega arith) in
      ap (λ (h : DefaultHasher). write_byte h b7) seven
      ∙ byte_last mixed next t7 (count + 7) (count + 8) b7 word (omega arith) (omega arith) fits (word_made ∙ sym is) goes

-- eight bytes or more: the first eight go in as the number in them
first_eight : (mixed next : Mixed) (count word : ℕ) (bytes : List ℕ) → 8 ≤ length bytes → ((k : ℕ) → get_or bytes k 0 < 256) → count + 8 < 2 ^ 64 → count % 8 ≡ 0
    → word ≡ from_le_bytes w64 (take 8 bytes) → ((rest n : ℕ) → hasher_of next rest n ≡ write_word (hasher_of mixed rest n) word)
    → fold write_byte (hasher_of mixed 0 count) (take 8 bytes) ≡ hasher_of next 0 (count + 8)
first_eight mixed next count word (b0 ∷ (b1 ∷ (b2 ∷ (b3 ∷ (b4 ∷ (b5 ∷ (b6 ∷ (b7 ∷ more)))))))) long small fits aligned is goes =
    eight_bytes b0 b1 b2 b3 b4 b5 b6 b7 (small 0) (small 1) (small 2) (small 3) (small 4) (small 5) (small 6) (small 7) mixed next count word aligned fits is goes
first_eight mixed next count word bytes long small fits aligned is goes = absurd (omega arith)

-- a word goes in, and the hash is that of what is left
pub word_goes_in : (mixed next : Mixed) (count word : ℕ) (bytes : List ℕ) → 8 ≤ length bytes → ((k : ℕ) → get_or bytes k 0 < 256) → count + 8 < 2 ^ 64 → count % 8 ≡ 0
    → word ≡ from_le_bytes w64 (take 8 bytes) → ((rest n : ℕ) → hasher_of next rest n ≡ write_word (hasher_of mixed rest n) word)
    → write (hasher_of mixed 0 count) bytes ≡ write (hasher_of next 0 (count + 8)) (drop 8 bytes)
unfolding write
word_goes_in mixed next count word bytes long small fits aligned is goes =
    let start : DefaultHasher = hasher_of mixed 0 count in
    ap (fold write_byte start) (sym (take-append-drop 8 bytes))
    ∙ fold-append write_byte start (take 8 bytes) (drop 8 bytes)
    ∙ ap (λ (h : DefaultHasher). fold write_byte h (drop 8 bytes)) (first_eight mixed next count word bytes long small fits aligned is goes)

pub no_tail : (bytes : List ℕ) → IsTail (take 0 bytes) 0
unfolding write
no_tail bytes = λ mixed count aligned fits.
    let same : count ≡ count + 0 = omega arith in
    ap (λ (n : ℕ). hasher_of mixed 0 n) same

pub tail_more : (bytes : List ℕ) (place tail : ℕ) → place < length bytes → length bytes < 8 → IsTail (take place bytes) tail
    → IsTail (take (place + 1) bytes) (with_byte tail place (get_or bytes place 0))
unfolding write
tail_more bytes place tail below few so_far = λ mixed count aligned fits.
    let before : length (take place bytes) ≡ place = length-take-le place bytes (omega arith) in
    let after : length (take (place + 1) bytes) ≡ place + 1 = length-take-le (place + 1) bytes (omega arith) in
    fold_more write_byte (hasher_of mixed 0 count) bytes place 0 below
    ∙ ap (λ (h : DefaultHasher). write_byte h (get_or bytes place 0)) (so_far mixed count aligned (omega arith))
    ∙ byte_aside mixed tail (count + length (take place bytes)) (count + length (take (place + 1) bytes)) place (get_or bytes place 0) (omega arith) (omega arith) fits (omega arith)
