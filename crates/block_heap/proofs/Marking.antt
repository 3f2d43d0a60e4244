-- Marks in words of 64.
use Rattle.std.proofs.Common.{◌≡◌, ◌≢◌, ℕ, suc, ◌+◌, ◌-◌, ◌*◌, ◌/◌, ◌%◌, ◌^◌, ◌<◌, ◌≤◌, ◌⊎◌, inl, inr, List, length, get_or, refl, sym, ap, ◌∙◌, arith}
use Rattle.std.specs.Int.{bit_at, w64, trailing_zeros, leading_zeros}
use Rattle.std.proofs.Math.Nat.{div-div-eq-div-mul, div-eq_of_lt-le}
use Rattle.std.proofs.lemmas.Nat.{pow-add, leading_top}
use Rattle.std.proofs.lemmas.Nat.Bits.{bit_at-trailing_zeros, bit_at_above, bit_at-zero}
use Rattle.std.proofs.lemmas.Bool.{cases_lt}
use Rattle.std.proofs.lemmas.List.{get_or_default}
use Rattle.std.proofs.lemmas.Grind.{common_steps}
use Rattle.block_heap.specs.Marks.{mark_at}

-- a shift and a shift by one more
shifted : (n a j : ℕ) → n / 2 ^ a / 2 / 2 ^ j ≡ n / 2 ^ (a + 1 + j)
shifted n a j = grind (arith, common_steps, div-div-eq-div-mul n (2 ^ a) 2, div-div-eq-div-mul n (2 ^ a * 2) (2 ^ j), pow-add 2 a 1, pow-add 2 (a + 1) j)

-- the lowest bit above another
pub bit_above : (bits at : ℕ) → bits < 2 ^ 64 → bits / 2 ^ at / 2 ≢ 0 → (at + 1 + trailing_zeros w64 (bits / 2 ^ at / 2) < 64) × (bit_at bits (at + 1 + trailing_zeros w64 (bits / 2 ^ at / 2)) ≡ 1)
bit_above bits at wide some =
    let later = bits / 2 ^ at / 2 in
    let low = bit_at-trailing_zeros w64 later (omega arith) (omega arith) in
    let j = trailing_zeros w64 later in
    let on : bit_at bits (at + 1 + j) ≡ 1 = sym (ap (λ n. n % 2) (shifted bits at j)) ∙ low.1 in
    (below (at + 1 + j) on (cases_lt (at + 1 + j) 64), on)
  where
    below : (i : ℕ) → bit_at bits i ≡ 1 → (i < 64) ⊎ (64 ≤ i) → i < 64
    below i on (inl lt) = lt
    below i on (inr le) = absurd (omega (arith, bit_at_above bits 64 i wide le))

pub no_bit_above : (bits at next : ℕ) → bits / 2 ^ at / 2 ≡ 0 → at < next → bit_at bits next ≡ 0
no_bit_above bits at next none lt = grind (arith, common_steps, shifted bits at (next - (at + 1)), bit_at-zero (next - (at + 1)))

-- the highest bit of all
record LastBit (bits : ℕ) : Type 0 where
  few : leading_zeros w64 bits < 64
  on : bit_at bits (63 - leading_zeros w64 bits) ≡ 1
  above : (i : ℕ) → 63 - leading_zeros w64 bits < i → bit_at bits i ≡ 0

last_bit : (bits : ℕ) → bits < 2 ^ 64 → bits ≢ 0 → LastBit bits
last_bit bits wide some =
    let top = leading_top 64 bits (omega arith) wide in
    let e : top.0 ≡ 63 - leading_zeros w64 bits = (let count = top.1 in omega arith) in
    let one : bits / 2 ^ top.0 ≡ 1 = div-eq_of_lt-le (2 ^ top.0) (let low = top.2 in omega arith) (let high = top.3 in omega (arith, pow-add 2 top.0 1)) in
    record {
      few = (let count = top.1 in omega arith);
      on = ap (bit_at bits) (sym e) ∙ ap (λ n. n % 2) one;
      above = λ i lt. bit_at_above bits (suc top.0) i top.3 (omega arith);
    }

-- A word of the marks, as it is read.
module _ (marks : List ℕ) (len : length marks ≡ 18) (w bits : ℕ) (within : w < 18) (is : bits ≡ get_or marks w bits) where
  word_is : get_or marks w 0 ≡ bits
  word_is = get_or_default marks w 0 bits (omega arith) ∙ sym is

  mark_is : (at i : ℕ) → i < 64 → at ≡ 64 * w + i → mark_at marks at ≡ bit_at bits i
  mark_is at i few e =
      let q : at / 64 ≡ w = omega arith in
      let r : at % 64 ≡ i = omega arith in
      ap (λ n. bit_at (get_or marks n 0) (at % 64)) q ∙ ap (bit_at (get_or marks w 0)) r ∙ ap (λ n. bit_at n i) word_is

  -- the first mark behind one of the word
  pub own_next : (at : ℕ) → at / 64 ≡ w → bits < 2 ^ 64 → bits / 2 ^ (at % 64) / 2 ≢ 0
      → (at < at + 1 + trailing_zeros w64 (bits / 2 ^ (at % 64) / 2)) × (at + 1 + trailing_zeros w64 (bits / 2 ^ (at % 64) / 2) < 1152) × (mark_at marks (at + 1 + trailing_zeros w64 (bits / 2 ^ (at % 64) / 2)) ≡ 1)
  own_next at own wide some =
      let next = bit_above bits (at % 64) wide some in
      let few = next.0 in
      (omega arith, omega arith, mark_is (at + 1 + trailing_zeros w64 (bits / 2 ^ (at % 64) / 2)) (at % 64 + 1 + trailing_zeros w64 (bits / 2 ^ (at % 64) / 2)) few (omega arith) ∙ next.1)

  pub own_none : (at next : ℕ) → at / 64 ≡ w → bits / 2 ^ (at % 64) / 2 ≡ 0 → at < next → next < 64 * (w + 1) → mark_at marks next ≡ 0
  own_none at next own none lt few = mark_is next (next - 64 * w) (omega arith) (omega arith) ∙ no_bit_above bits (at % 64) (next - 64 * w) none (omega arith)

  -- the first mark of the word
  pub word_first : bits < 2 ^ 64 → bits ≢ 0 → (64 * w + trailing_zeros w64 bits < 1152) × (mark_at marks (64 * w + trailing_zeros w64 bits) ≡ 1)
  word_first wide some =
      let low = bit_at-trailing_zeros w64 bits (omega arith) wide in
      let few = low.0 in
      (omega arith, mark_is (64 * w + trailing_zeros w64 bits) (trailing_zeros w64 bits) few refl ∙ low.1)

  pub word_none : bits ≡ 0 → (at : ℕ) → 64 * w ≤ at → at < 64 * (w + 1) → mark_at marks at ≡ 0
  word_none none at least few = mark_is at (at - 64 * w) (omega arith) (omega arith) ∙ ap (λ n. bit_at n (at - 64 * w)) none ∙ bit_at-zero (at - 64 * w)

  -- the last mark of the word, where no word behind it has one
  pub word_last : bits < 2 ^ 64 → bits ≢ 0 → ((at : ℕ) → 64 * (w + 1) ≤ at → at < 1152 → mark_at marks at ≡ 0)
      → (64 * w + 63 - leading_zeros w64 bits < 1152) × (mark_at marks (64 * w + 63 - leading_zeros w64 bits) ≡ 1) × ((above : ℕ) → 64 * w + 63 - leading_zeros w64 bits < above → above < 1152 → mark_at marks above ≡ 0)
  word_last wide some behind =
      let top = last_bit bits wide some in
      let few = top.few in (
        omega arith,
        mark_is (64 * w + 63 - leading_zeros w64 bits) (63 - leading_zeros w64 bits) (omega arith) (omega arith) ∙ top.on,
        λ above lt most. by above lt most (cases_lt above (64 * (w + 1))),
      )
    where
      by : (above : ℕ) → 64 * w + 63 - leading_zeros w64 bits < above → above < 1152 → (above < 64 * (w + 1)) ⊎ (64 * (w + 1) ≤ above) → mark_at marks above ≡ 0
      by above lt most (inl own) =
          let top = last_bit bits wide some in
          let few = top.few in
          mark_is above (above - 64 * w) (omega arith) (omega arith) ∙ top.above (above - 64 * w) (omega arith)
      by above lt most (inr later) = behind above later most
