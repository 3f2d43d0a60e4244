-- How many spare buckets are free: all spares are free or behind a main bucket, each in one place.
use Rattle.chained_index.proofs.Words.{◌↔◌, ◌≡◌, ℕ, zero, suc, ◌+◌, ◌≤◌, inl, inr, List, ◌++◌, length, refl, ap, arith, length-append, Contains}
use Rattle.chained_index.proofs.Words.{Contains-append_left, Contains-append_right, Contains-append_cases, Cells, keys_in, spares_behind}
use Rattle.chained_index.proofs.Words.{spares_below, spares_in_use, OwnerState, link_in, IsMain, IsSpare, InChain, entries_of, Index, IsIndexOf}
use Rattle.chained_index.proofs.Words.{in_tail, in_chain, has_bucket, not_main, behind_differ, listed_or_not, all_there}
use Rattle.partition_words.proofs.Differing.{AllDiffer, differ_joined}
use Rattle.chained_index.proofs.Chained.{Chained}
use Rattle.chained_index.proofs.Filled.{view}

-- how many spares the chains of the buckets below a number have, by the entries of each
spares_used : OwnerState → ℕ → ℕ
spares_used o zero = 0
spares_used o (suc b) = spares_behind (length (entries_of o b)) + spares_used o b

module _ (o : OwnerState) (s : Chained o) (index : Index) (known : IsIndexOf index o) where
  -- the free spares and those behind the buckets below a number are the spares in no chain from that number on
  spares_to : (n : ℕ) → n ≤ o.shape.buckets → (xs : List ℕ) × (length xs ≡ length index.free + spares_used o n) × AllDiffer xs
      × ((c : ℕ) → Contains xs c ↔ (IsSpare o.shape c × ((b : ℕ) → n ≤ b → IsMain o.shape b → ¬ (InChain o b c))))
  unfolding spares_used
  spares_to zero few = (
    index.free,
    omega arith,
    known.once,
    λ c. (
      λ has. let f = (known.free c).0 has in (f.spare, λ b least main. f.free b main),
      λ is. (known.free c).1 (record { spare = is.0; free = λ b main. is.1 b (omega arith) main }),
    ),
  )
  spares_to (suc n) few =
      let v = view o s index known n (omega arith) in
      let rest = spares_to n (omega arith) in
      let own : (c : ℕ) → Contains v.behind c → InChain o n c = λ c i. in_chain o n v.behind v.chain c (in_tail n c v.behind i) in (
        v.behind ++ rest.0,
        omega (arith, length-append v.behind rest.0, rest.1, v.filled.size),
        differ_joined v.behind rest.0 (behind_differ (link_in o) n v.behind v.chain.behind) rest.2 (λ c i more. ((rest.3 c).0 more).1 n (omega arith) v.main (own c i)),
        λ c. (
          λ has. elim (Contains-append_cases v.behind rest.0 c has) [
            | inl i ↦ (v.chain.spare c i, λ b least main h. s.chains.apart n b c v.main main (λ e. omega arith) (own c i) h)
            | inr more ↦ (let is = (rest.3 c).0 more in (is.0, λ b least main. is.1 b (omega arith) main))
          ],
          λ is. elim (listed_or_not v.behind c) [
            | inl i ↦ Contains-append_left v.behind rest.0 c i
            | inr not ↦ Contains-append_right v.behind rest.0 c ((rest.3 c).1 (
              is.0,
              λ b least main h.
                  let here = λ (i : InChain o n c). not (not_main o.shape n c v.behind v.main is.0 (has_bucket o n v.behind v.chain c i)) in
                  grind (arith, is.1 b),
            ))
          ],
        ),
      )

  -- the free spares and those behind all chains are all spares
  spares_counted : length index.free + spares_used o o.shape.buckets ≡ o.shape.spares
  spares_counted =
      let all = spares_to o.shape.buckets (omega arith) in
      let count = all_there all.0 o.shape.buckets o.shape.spares all.2 (λ c has. ((all.3 c).0 has).0)
      (λ c low high. (all.3 c).1 ((low, high), λ b least main. absurd (omega arith))) in
      omega (arith, all.1)

  -- in the machine's words, where each chain has as many entries as its bucket has keys
  module _ (cells : Cells) (as_keys : (b : ℕ) → IsMain o.shape b → length (entries_of o b) ≡ keys_in o.shape.hashing o.shape.buckets b cells) where
    used_below : (n : ℕ) → n ≤ o.shape.buckets → spares_used o n ≡ spares_below o.shape.hashing o.shape.buckets n cells
    unfolding spares_used spares_below
    used_below zero few = refl
    used_below (suc b) few = omega (arith, used_below b (omega arith), ap spares_behind (as_keys b (omega arith)))

    pub free_spares : length index.free + spares_in_use o.shape.hashing o.shape.buckets cells ≡ o.shape.spares
    free_spares = omega (arith, spares_counted, used_below o.shape.buckets (omega arith))
