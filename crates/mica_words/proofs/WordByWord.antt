-- What `pack` and `unpack` have written, whole words first and then the bytes that are left, is what the definitions say.
use Rattle.std.proofs.Common.{◌≡◌, ◌≢◌, ℕ, zero, suc, ◌+◌, ◌-◌, ◌*◌, ◌/◌, ◌%◌, ◌<◌, ◌≤◌, List, [], ◌∷◌, ◌++◌, length, take, drop, flat_map, slice_index, slice_set, refl, sym, ap, ◌∙◌, subst, arith, inl, inr, append_assoc, length-append, length-drop}
use Rattle.std.proofs.lemmas.Bool.{cases_lt}
use Rattle.std.proofs.lemmas.List.{drop-drop, get_or-set_other, get_or-set_same, length-set, length-take-le, take-append-le, take_all}
use Rattle.std.proofs.lemmas.List.Concat.{flat_map-cons}
use Rattle.std.proofs.Math.Seq.{take-append-add, drop-append_seam, take-append_seam, take-length}
use Rattle.std.specs.Int.{w64, to_le_bytes}
use Rattle.std.proofs.lemmas.Grind.{common_steps}
use borrow.Rule.Slice.PartMut.{put_mid}
use Rattle.byteorder.specs.Endian.{little_from}
use Rattle.mica_words.specs.Item.{words_for}
use Rattle.mica_words.specs.Packing.{little, packed, unpacked}
use Rattle.mica_words.proofs.PackedBytes.{little_is, are_packed, length-words}

module _ (bytes into words : List ℕ) (n : ℕ) (count : length words ≡ n) (whole : n ≡ length bytes / 8) (room : length into ≡ words_for (length bytes))
    (read : (k : ℕ) → k < length words → slice_index words k ≡ little_from 0 8 (drop (8 * k) (take (8 * n) bytes))) where
  word_at : (k : ℕ) → k < n → slice_index (words ++ drop n into) k ≡ little (take 8 (drop (8 * k) bytes))
  word_at k below = grind (arith, common_steps)

  length_written : length (words ++ drop n into) ≡ words_for (length bytes)
  length_written = omega (arith, length-append words (drop n into), length-drop n into)

  pub packed_whole : length bytes % 8 ≡ 0 → words ++ drop n into ≡ packed bytes
  packed_whole even = are_packed bytes (words ++ drop n into) length_written (λ k below. word_at k (omega (arith, length_written)))

  pub packed_with_rest : (rest : List ℕ) (last : ℕ) → rest ≡ drop (8 * n) bytes → 0 < length rest → last ≡ little_from 0 (length rest) rest
      → slice_set (words ++ drop n into) n last ≡ packed bytes
  packed_with_rest rest last is some read_rest =
      let left : length rest ≡ length bytes - 8 * n = ap length is ∙ length-drop (8 * n) bytes in
      let kept = length-set (words ++ drop n into) n last in
      are_packed bytes (slice_set (words ++ drop n into) n last) (kept ∙ length_written) (λ k below. elim (cases_lt k n) [
        | inl less ↦
            let other : k ≢ n = omega arith in
            get_or-set_other (words ++ drop n into) n k last 0 other ∙ word_at k less
        | inr more ↦
            let here : k ≡ n = omega (arith, length_written) in
            let short : take 8 (drop (8 * n) bytes) ≡ rest = ap (take 8) (sym is) ∙ take_all 8 rest (omega arith) in
            subst (λ (z : ℕ). slice_index (slice_set (words ++ drop n into) n last) z ≡ little (take 8 (drop (8 * z) bytes))) (sym here)
            (get_or-set_same (words ++ drop n into) n last 0 (omega (arith, length_written))
            ∙ (read_rest ∙ (little_is (length rest) rest ∙ (ap little (take-length rest) ∙ ap little (sym short)))))
      ])

-- the bytes of the first n words
whole_words : (n : ℕ) (words : List ℕ) → n ≤ length words → take (8 * n) (flat_map (to_le_bytes w64) words) ≡ flat_map (to_le_bytes w64) (take n words)
whole_words zero words enough = refl
whole_words (suc n) [] enough = absurd (omega arith)
whole_words (suc n) (word ∷ words) enough =
    grind (arith, common_steps, flat_map-cons (to_le_bytes w64) word words, take-append-add (to_le_bytes w64 word), whole_words n words (omega arith), flat_map-cons (to_le_bytes w64) word (take n words))

-- and r bytes of the next
words_and_rest : (n r : ℕ) (words : List ℕ) → n < length words → r ≤ 8
    → take (8 * n + r) (flat_map (to_le_bytes w64) words) ≡ flat_map (to_le_bytes w64) (take n words) ++ take r (to_le_bytes w64 (slice_index words n))
words_and_rest n r [] enough few = absurd (omega arith)
words_and_rest zero r (word ∷ words) enough few =
    grind (arith, common_steps, flat_map-cons (to_le_bytes w64) word words, take-append-le r (to_le_bytes w64 word) (flat_map (to_le_bytes w64) words) few)
words_and_rest (suc n) r (word ∷ words) enough few =
    let more : List ℕ = flat_map (to_le_bytes w64) words in
    let last : List ℕ = take r (to_le_bytes w64 (slice_index words n)) in
    let place : 8 * suc n + r ≡ 8 + (8 * n + r) = omega arith in
    ap (take (8 * suc n + r)) (flat_map-cons (to_le_bytes w64) word words)
    ∙ (ap (λ (z : ℕ). take z (to_le_bytes w64 word ++ more)) place
    ∙ (take-append-add (to_le_bytes w64 word) more (8 * n + r)
    ∙ (ap (λ (z : List ℕ). to_le_bytes w64 word ++ z) (words_and_rest n r words (omega arith) few)
    ∙ (sym (append_assoc (to_le_bytes w64 word) (flat_map (to_le_bytes w64) (take n words)) last)
    ∙ ap (λ (z : List ℕ). z ++ last) (sym (flat_map-cons (to_le_bytes w64) word (take n words)))))))

module _ (len n : ℕ) (words into bytes : List ℕ) (whole : n ≡ len / 8) (enough : words_for len ≤ length words)
    (written : bytes ≡ flat_map (to_le_bytes w64) (take n words)) where
  pub unpacked_whole : len % 8 ≡ 0 → bytes ++ drop (8 * n) into ≡ unpacked len words ++ drop len into
  unfolding unpacked
  unpacked_whole even = grind (arith, common_steps, whole_words n words (omega arith))

  pub unpacked_with_rest : (rest : List ℕ) → 0 < len % 8 → rest ≡ take (len % 8) (to_le_bytes w64 (slice_index words n))
      → put_mid (8 * n) (len - 8 * n) (bytes ++ drop (8 * n) into) rest ≡ unpacked len words ++ drop len into
  unfolding unpacked
  unpacked_with_rest rest some read =
      grind (
        arith,
        common_steps,
        length-words (take n words),
        length-take-le n words (omega arith),
        take-append_seam bytes,
        drop-append_seam bytes,
        drop-drop (len - 8 * n) (8 * n) into,
        words_and_rest n (len % 8) words (omega arith) (omega arith),
        append_assoc bytes rest (drop len into),
      )
