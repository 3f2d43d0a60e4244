-- A search among requests whose tickets rise finds the one with a ticket.
use Rattle.std.proofs.Common.{◌≡◌, ◌<◌, ◌≤◌, ℕ, ◌==◌, true, false, List, [], ◌∷◌, length, get_or, refl, sym, ap, arith, cond, inl, inr, Some, None, Ok, Err, option_map}
use Rattle.std.specs.Prelude.{find}
use Rattle.std.specs.Ordering.{nat_cmp, ordering_index}
use Rattle.std.specs.List.Sorted.{IsSearchInRange, IsBinarySearchResult, IsNonDecreasingBy}
use Rattle.std.proofs.lemmas.Bool.{cases_lt}
use Rattle.std.proofs.lemmas.Bool.Decides.{nat_tests}
use Rattle.std.proofs.lemmas.Cmp.{ranked}
use Rattle.std.proofs.lemmas.List.Recursion.{found_at, found_nowhere}
use Rattle.batch_packets.specs.declared.batch.Request.{Request}
use Rattle.mica_client.specs.Answers.{TicketsRise, want_at}

module _ (requests : List Request) (rise : TicketsRise requests) (ticket : ℕ) where
  comparisons_rise : IsNonDecreasingBy (λ r. ordering_index (nat_cmp r.ticket ticket)) requests
  comparisons_rise i j d order within =
      let up : (get_or requests i d).ticket ≤ (get_or requests j d).ticket = grind (arith, rise i j d, λ (same : i ≡ j). ap (λ (n : ℕ). (get_or requests n d).ticket) same) in
      grind (arith, nat_tests, up)

  one_more : (r : Request) (rs : List Request) → want_at (r ∷ rs) ticket ≡ cond (r.ticket == ticket) (Some r.want) (want_at rs ticket)
  one_more r rs =
      elim (r.ticket == ticket) as (λ b. option_map (λ (request : Request). request.want) (cond b (Some r) (find (λ request. request.ticket == ticket) rs)) ≡ cond b (Some r.want) (want_at rs ticket)) [
        | true ↦ refl
        | false ↦ refl
      ]

  unlike : (n : ℕ) → (n ≡ ticket → ⊥) → (n == ticket) ≡ false
  unlike n h = grind (arith, nat_tests, h)

  -- the request at a place where the ticket is found
  pub want_here : (place : ℕ) (d : Request) → place < length requests → (get_or requests place d).ticket ≡ ticket → want_at requests ticket ≡ Some (get_or requests place d).want
  want_here place d within here =
      found_at (λ rs. want_at rs ticket) (λ r. r.ticket == ticket) (λ r. Some r.want) None refl one_more requests place d within
      (λ k before. unlike _ (λ same. let below = rise k place d before within in omega (arith, below, same, here)))
      (grind (arith, nat_tests, here))

  pub want_found : (place : ℕ) (d : Request) → IsSearchInRange (Ok place) (length requests) → IsBinarySearchResult (λ r. nat_cmp r.ticket ticket) requests (Ok place)
      → want_at requests ticket ≡ Some (get_or requests place d).want
  want_found place d within found = want_here place d within (ranked _ ticket _ (sym (found d)))

  pub want_missing : (place : ℕ) → IsSearchInRange (Err place) (length requests) → IsBinarySearchResult (λ r. nat_cmp r.ticket ticket) requests (Err place) → want_at requests ticket ≡ None
  want_missing place within parted = by requests refl
    where
      by : (all : List Request) → all ≡ requests → want_at requests ticket ≡ None
      by [] same = ap (λ (rs : List Request). want_at rs ticket) (sym same)
      by (first ∷ later) same =
          let point = parted comparisons_rise in
          found_nowhere (λ rs. want_at rs ticket) (λ r. r.ticket == ticket) (λ r. Some r.want) None refl one_more requests first
          (λ k below. unlike _ (elim (cases_lt k place) [
            | inl before ↦ λ here. (let less : (get_or requests k first).ticket < ticket = ranked _ ticket _ (sym (point.0 k first (omega arith) before)) in omega (arith, less, here))
            | inr after ↦ λ here. (let more : ticket < (get_or requests k first).ticket = ranked _ ticket _ (sym (point.1 k first after below)) in omega (arith, more, here))
          ]))
