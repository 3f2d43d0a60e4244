-- The hash of a key is that of what is left of it, behind the words that went in.
use Rattle.std.proofs.Common.{◌≡◌, ℕ, ◌+◌, ◌-◌, ◌%◌, ◌^◌, ◌<◌, ◌≤◌, List, length, take, drop, get_or, sym, ap, ◌∙◌, subst, arith, length-drop}
use Rattle.std.proofs.lemmas.List.{get_or-drop}
use Rattle.std.specs.Int.{w64, from_le_bytes}
use Rattle.std.specs.declared.hash.DefaultHasher.{DefaultHasher}
use Rattle.std.specs.Hash.DefaultHasher.{with_keys, write_word, write, finish}
use Rattle.keyed_hash.specs.declared.mixed.Mixed.{Mixed}
use Rattle.keyed_hash.specs.SipHash.{siphash, hasher_of, IsTail}
use Rattle.keyed_hash.proofs.Words.{word_goes_in}

-- whole words of the key went in, and the rest of it makes the hash
pub record IsLeft (k0 k1 : ℕ) (key : List ℕ) (mixed : Mixed) (rest : List ℕ) : Type 0 where
  fits : length rest ≤ length key
  whole : (length key - length rest) % 8 ≡ 0
  small : (k : ℕ) → get_or rest k 0 < 256
  same : siphash k0 k1 key ≡ finish (write (hasher_of mixed 0 (length key - length rest)) rest)

pub starts : (k0 k1 : ℕ) (key : List ℕ) (mixed : Mixed) → ((k : ℕ) → get_or key k 0 < 256) → hasher_of mixed 0 0 ≡ with_keys k0 k1 → IsLeft k0 k1 key mixed key
unfolding siphash
starts k0 k1 key mixed small is =
    let none : 0 ≡ length key - length key = omega arith in
    record {
      fits = omega arith;
      whole = omega arith;
      small = small;
      same = ap (λ (h : DefaultHasher). finish (write h key)) (sym is) ∙ ap (λ (n : ℕ). finish (write (hasher_of mixed 0 n) key)) none;
    }

pub goes_on : (k0 k1 word : ℕ) (key rest behind : List ℕ) (mixed next : Mixed) → IsLeft k0 k1 key mixed rest → length key < 2 ^ 64
    → 8 ≤ length rest → behind ≡ drop 8 rest → word ≡ from_le_bytes w64 (take 8 rest)
    → ((tail n : ℕ) → hasher_of next tail n ≡ write_word (hasher_of mixed tail n) word) → IsLeft k0 k1 key next behind
goes_on k0 k1 word key rest behind mixed next left short long is reads goes =
    let shorter : length behind ≡ length rest - 8 = ap length is ∙ length-drop 8 rest in
    let fits : length rest ≤ length key = left.fits in
    let whole : (length key - length rest) % 8 ≡ 0 = left.whole in
    let count : length key - length rest + 8 ≡ length key - length behind = omega arith in
    record {
      fits = omega arith;
      whole = omega arith;
      small = λ k. subst (λ (bytes : List ℕ). get_or bytes k 0 < 256) (sym is) (rw get_or-drop (left.small (8 + k)));
      same = left.same ∙ ap finish (word_goes_in mixed next (length key - length rest) word rest long left.small (omega arith) whole reads goes)
          ∙ ap (λ (n : ℕ). finish (write (hasher_of next 0 n) (drop 8 rest))) count
          ∙ ap (λ (bytes : List ℕ). finish (write (hasher_of next 0 (length key - length behind)) bytes)) (sym is);
    }

pub ends : (k0 k1 tail hash : ℕ) (key rest : List ℕ) (mixed : Mixed) → IsLeft k0 k1 key mixed rest → length key < 2 ^ 64 → IsTail rest tail
    → hash ≡ finish (hasher_of mixed tail (length key)) → hash ≡ siphash k0 k1 key
ends k0 k1 tail hash key rest mixed left small is_tail is =
    let fits : length rest ≤ length key = left.fits in
    let all : length key - length rest + length rest ≡ length key = omega arith in
    is ∙ sym (left.same ∙ ap finish (is_tail mixed (length key - length rest) left.whole (omega arith) ∙ ap (λ (n : ℕ). hasher_of mixed tail n) all))
