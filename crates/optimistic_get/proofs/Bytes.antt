-- The bytes of words that were loaded one after another.
use Rattle.std.proofs.Common.{◌≡◌, ℕ, ◌+◌, ◌*◌, List, [], ◌∷◌, ◌++◌, length, take, flat_map, sym, ap, ◌∙◌, arith, length-append}
use Rattle.std.proofs.lemmas.Grind.{flat_map-append}
use Rattle.std.proofs.lemmas.List.{append-nil}
use Rattle.std.specs.Int.{w64, to_le_bytes}
use Rattle.mica_words.specs.Packing.{unpacked}
use Rattle.mica_words.proofs.PackedBytes.{length-words}

abbrev pub bytes_of : List ℕ → List ℕ
bytes_of words = flat_map (to_le_bytes w64) words

pub bytes_more : (x : ℕ) (words bytes : List ℕ) → bytes ≡ bytes_of words → bytes ++ to_le_bytes w64 x ≡ bytes_of (words ++ x ∷ [])
bytes_more x words bytes so_far =
    ap (λ (z : List ℕ). z ++ to_le_bytes w64 x) so_far
    ∙ (ap (λ (z : List ℕ). bytes_of words ++ z) (sym (append-nil (to_le_bytes w64 x)))
    ∙ sym (flat_map-append (to_le_bytes w64) words (x ∷ [])))

pub bytes_then : (words more bytes : List ℕ) → bytes ≡ bytes_of words → bytes ++ bytes_of more ≡ bytes_of (words ++ more)
bytes_then words more bytes so_far = ap (λ (z : List ℕ). z ++ bytes_of more) so_far ∙ sym (flat_map-append (to_le_bytes w64) words more)

pub eight_more : (i x : ℕ) (bytes more : List ℕ) → more ≡ bytes ++ to_le_bytes w64 x → length bytes ≡ 8 * i → length more ≡ 8 * (i + 1)
eight_more i x bytes more is wide = let long = ap (length {A = ℕ}) is ∙ length-append bytes (to_le_bytes w64 x) in omega arith

pub longer : (words bytes more : List ℕ) → more ≡ bytes ++ bytes_of words → length more ≡ length bytes + 8 * length words
longer words bytes more is = ap (length {A = ℕ}) is ∙ (length-append bytes (bytes_of words) ∙ ap (λ (z : ℕ). length bytes + z) (length-words words))

pub value_of : (len : ℕ) (bytes words : List ℕ) → bytes ≡ bytes_of words → take len bytes ≡ unpacked len words
unfolding unpacked
value_of len bytes words is = ap (take len) is
