-- What was written is read again.
use Rattle.std.proofs.Common.{◌≡◌, ℕ, ◌^◌, ◌<◌, true, false, ltb, eqb, List, [], ◌∷◌, ◌++◌, length, take, drop, refl, ap, subst, ◌∙◌, arith}
use Rattle.std.specs.Prelude.{Some, Ok}
use Rattle.std.specs.List.{AllByRecursion}
use Rattle.std.specs.Int.{w64, from_le_bytes, to_le_bytes}
use Rattle.std.proofs.lemmas.Bool.{le-ltb, eq-eqb}
use Rattle.std.proofs.lemmas.Nat.{from_le_bytes-to_le_bytes_8}
use Rattle.std.proofs.lemmas.List.{length-append}
use Rattle.std.proofs.Math.Seq.{drop-append_seam, take-append_seam}
use Rattle.mica_words.specs.Packing.{packed}
use Rattle.word_sums.specs.Sum.{IsWord}
use Rattle.word_sums.proofs.Back.{sum_word}
use Rattle.saved_items.specs.Blocks.{content_sum, blocks_text, block_text, joined, FillsBlock}
use Rattle.saved_items.specs.Reading.{Stop, AtEnd, with_front, told_sum, sum_after, stream_at, bytes_at, word_at}
use Rattle.saved_items.specs.Spelling.{word_text}
use Rattle.saved_items.proofs.Streams.{stream_told, stream_empty}

-- ---- blocks

pub content_sum-word : (sum : ℕ) (content : List ℕ) → IsWord sum → IsWord (content_sum sum content)
unfolding content_sum
content_sum-word sum content is = sum_word sum (packed content) is

eqb-same : (n : ℕ) → eqb n n ≡ true
eqb-same n = eq-eqb n n refl

module _ (sum : ℕ) (content : List ℕ) (is : IsWord sum) (fills : FillsBlock content) where
  word_len : length (to_le_bytes w64 (content_sum sum content)) ≡ 8
  word_len = refl

  front_is : take 65528 (block_text sum content) ≡ content
  front_is = subst (λ (n : ℕ). take n (block_text sum content) ≡ content) fills (take-append_seam content (to_le_bytes w64 (content_sum sum content)))

  behind_is : drop 65528 (block_text sum content) ≡ to_le_bytes w64 (content_sum sum content)
  behind_is = subst (λ (n : ℕ). drop n (block_text sum content) ≡ to_le_bytes w64 (content_sum sum content)) fills (drop-append_seam content (to_le_bytes w64 (content_sum sum content)))

  told_is : told_sum (block_text sum content) ≡ content_sum sum content
  told_is = ap (λ (b : List ℕ). from_le_bytes w64 (take 8 b)) behind_is ∙ from_le_bytes-to_le_bytes_8 (content_sum sum content) (content_sum-word sum content is)

  pub block_len : length (block_text sum content) ≡ 65536
  block_len = omega (arith, length-append content (to_le_bytes w64 (content_sum sum content)), fills, word_len)

  pub block_told : sum_after sum (block_text sum content) ≡ Some (content_sum sum content)
  block_told =
      let same : content_sum sum (take 65528 (block_text sum content)) ≡ content_sum sum content = ap (content_sum sum) front_is in
      let equal : eqb (told_sum (block_text sum content)) (content_sum sum (take 65528 (block_text sum content))) ≡ true =
      ap (λ (n : ℕ). eqb n (content_sum sum (take 65528 (block_text sum content)))) told_is
      ∙ ap (eqb (content_sum sum content)) same ∙ eqb-same (content_sum sum content) in
      rw equal (ap (λ (n : ℕ). Some n) same)

pub blocks_stream : (sum : ℕ) (contents : List (List ℕ)) → IsWord sum → AllByRecursion FillsBlock contents → stream_at sum (blocks_text sum contents) ≡ record { content = joined contents; stop = AtEnd }
blocks_stream sum [] is whole = stream_empty sum
blocks_stream sum (content ∷ contents) is whole =
    let next = content_sum sum content in
    let rest = blocks_stream next contents (content_sum-word sum content is) whole.1 in
    stream_told sum (block_text sum content) (blocks_text next contents) (block_len sum content is whole.0) next (block_told sum content is whole.0)
    ∙ ap (λ (c : List ℕ). with_front c (stream_at next (blocks_text next contents))) (front_is sum content is whole.0)
    ∙ ap (with_front content) rest

-- ---- bytes

pub bytes_again : (bytes rest : List ℕ) (stop : Stop) (n : ℕ) → length bytes ≡ n → bytes_at n (record { content = bytes ++ rest; stop = stop }) ≡ Ok (bytes, record { content = rest; stop = stop })
bytes_again bytes rest stop n len =
    let enough : ltb (length (bytes ++ rest)) n ≡ false = le-ltb (length (bytes ++ rest)) n (omega (arith, length-append bytes rest)) in
    let front : take n (bytes ++ rest) ≡ bytes = subst (λ (k : ℕ). take k (bytes ++ rest) ≡ bytes) len (take-append_seam bytes rest) in
    let behind : drop n (bytes ++ rest) ≡ rest = subst (λ (k : ℕ). drop k (bytes ++ rest) ≡ rest) len (drop-append_seam bytes rest) in
    rw (enough, front, behind) refl

pub word_again : (word : ℕ) (rest : List ℕ) (stop : Stop) → word < 2 ^ 64 → word_at (record { content = word_text word ++ rest; stop = stop }) ≡ Ok (word, record { content = rest; stop = stop })
word_again word rest stop is = rw (bytes_again (word_text word) rest stop 8 refl, from_le_bytes-to_le_bytes_8 word is) refl
