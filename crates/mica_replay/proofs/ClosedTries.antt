-- Each get of a partition is one reader's, so what the readers' gets of it come to is the number of all.
use Rattle.std.proofs.Common.{◌≡◌, ℕ, zero, suc, ◌+◌, ◌<◌, ◌%◌, ◌==◌, ◌&&◌, List, [], ◌∷◌, length, refl, sym, ap, ◌∙◌, subst, arith, cond, true, false, eq-eqb, ne_eqb, eqb-true, Bool, true≢false, ◌≢◌}
use Rattle.std.specs.List.{count_by}
use Rattle.std.proofs.lemmas.List.Sums.{sum_by-cons}
use Rattle.partition_model.specs.declared.options.Options.{Options}
use Rattle.mica_trace.specs.Rounds.{is_in_partition}
use Rattle.mica_trace.specs.RoundReport.{LinePair, is_get, pairs_of, line_pairs_in}
use Rattle.mica_replay.specs.Between.{sum_to}

pub same_sums : (n : ℕ) (f h : ℕ → ℕ) → ((q : ℕ) → q < n → f q ≡ h q) → sum_to n f ≡ sum_to n h
same_sums zero f h same = refl
same_sums (suc n) f h same =
    let here = same n (omega arith) in
    let rest = same_sums n f h (λ q less. same q (omega arith)) in
    omega arith

-- one more at one place
one_more : (n r : ℕ) (f h : ℕ → ℕ) → r < n → h r ≡ f r + 1 → ((q : ℕ) → r ≢ q → h q ≡ f q) → sum_to n h ≡ sum_to n f + 1
one_more zero r f h less one others = absurd (omega arith)
one_more (suc n) r f h less one others =
    elim (r == n) as (λ b. (r == n) ≡ b → sum_to (suc n) h ≡ sum_to (suc n) f + 1) [
      | true ↦ λ e.
          let at : r ≡ n = eqb-true r n e in
          let here : h n ≡ f n + 1 = subst (λ (m : ℕ). h m ≡ f m + 1) at one in
          let rest = same_sums n h f (λ q below. others q (λ same. omega arith)) in
          omega arith
      | false ↦ λ e.
          let other : r ≢ n = λ same. absurd (true≢false (sym (eq-eqb r n same) ∙ e)) in
          let here = others n other in
          let rest = one_more n r f h (omega arith) one others in
          omega arith
    ] refl

none_sum : (n : ℕ) → sum_to n (λ q. 0) ≡ 0
none_sum zero = refl
none_sum (suc n) = let rest = none_sum n in omega arith

module _ (options : Options) (p : ℕ) (some : 0 < options.readers) where
  abbrev in_seat : ℕ → List LinePair → ℕ → ℕ
  in_seat g pairs q = length (line_pairs_in options p (pairs_of options q g pairs))

  abbrev in_part : LinePair → ℕ
  in_part pair = cond (is_get pair.0 && is_in_partition options p pair.0) 1 0

  pub gets_shared : (pairs : List LinePair) (g : ℕ) → sum_to options.readers (in_seat g pairs) ≡ count_by (λ (pair : LinePair). is_get pair.0 && is_in_partition options p pair.0) pairs
  gets_shared [] g = none_sum options.readers
  gets_shared (pair ∷ pairs) g =
      let counted : count_by (λ (pair : LinePair). is_get pair.0 && is_in_partition options p pair.0) (pair ∷ pairs) ≡ in_part pair + count_by (λ (pair : LinePair). is_get pair.0 && is_in_partition options p pair.0) pairs = sum_by-cons in_part pair pairs in
      elim (is_get pair.0) as (λ b. is_get pair.0 ≡ b → sum_to options.readers (in_seat g (pair ∷ pairs)) ≡ count_by (λ (pair : LinePair). is_get pair.0 && is_in_partition options p pair.0) (pair ∷ pairs)) [
        | false ↦ λ no.
            let here : in_part pair ≡ 0 = ap (λ b. cond (b && is_in_partition options p pair.0) 1 0) no in
            let rest = gets_shared pairs g in
            let same = same_sums options.readers (in_seat g (pair ∷ pairs)) (in_seat g pairs) (λ q less. ap (λ b. length (line_pairs_in options p (cond b (cond (g % options.readers == q) (pair ∷ pairs_of options q (g + 1) pairs) (pairs_of options q (g + 1) pairs)) (pairs_of options q g pairs)))) no) in
            omega arith
        | true ↦ λ yes.
            let rest = gets_shared pairs (g + 1) in
            let r : ℕ = g % options.readers in
            let below : g % options.readers < options.readers = omega arith in
            let opened : (q : ℕ) → in_seat g (pair ∷ pairs) q ≡ length (line_pairs_in options p (cond (g % options.readers == q) (pair ∷ pairs_of options q (g + 1) pairs) (pairs_of options q (g + 1) pairs)))
            = λ q. ap (λ b. length (line_pairs_in options p (cond b (cond (g % options.readers == q) (pair ∷ pairs_of options q (g + 1) pairs) (pairs_of options q (g + 1) pairs)) (pairs_of options q g pairs)))) yes in
            let others : (q : ℕ) → g % options.readers ≢ q → in_seat g (pair ∷ pairs) q ≡ in_seat (g + 1) pairs q
            = λ q n. opened q ∙ ap (λ b. length (line_pairs_in options p (cond b (pair ∷ pairs_of options q (g + 1) pairs) (pairs_of options q (g + 1) pairs)))) (ne_eqb (g % options.readers) q n) in
            let own : in_seat g (pair ∷ pairs) (g % options.readers) ≡ length (line_pairs_in options p (pair ∷ pairs_of options (g % options.readers) (g + 1) pairs))
            = opened (g % options.readers) ∙ ap (λ b. length (line_pairs_in options p (cond b (pair ∷ pairs_of options (g % options.readers) (g + 1) pairs) (pairs_of options (g % options.readers) (g + 1) pairs)))) (eq-eqb (g % options.readers) (g % options.readers) refl) in
            elim (is_in_partition options p pair.0) as (λ b. is_in_partition options p pair.0 ≡ b → sum_to options.readers (in_seat g (pair ∷ pairs)) ≡ count_by (λ (pair : LinePair). is_get pair.0 && is_in_partition options p pair.0) (pair ∷ pairs)) [
              | true ↦ λ here.
                  let one : in_part pair ≡ 1 = ap (λ b. cond (b && is_in_partition options p pair.0) 1 0) yes ∙ ap (λ b. cond b 1 0) here in
                  let mine : in_seat g (pair ∷ pairs) (g % options.readers) ≡ in_seat (g + 1) pairs (g % options.readers) + 1
                  = own ∙ ap (λ b. length (cond b (pair ∷ line_pairs_in options p (pairs_of options (g % options.readers) (g + 1) pairs)) (line_pairs_in options p (pairs_of options (g % options.readers) (g + 1) pairs)))) here ∙ omega arith in
                  let sums = one_more options.readers (g % options.readers) (in_seat (g + 1) pairs) (in_seat g (pair ∷ pairs)) below mine others in
                  omega arith
              | false ↦ λ elsewhere.
                  let none : in_part pair ≡ 0 = ap (λ b. cond (b && is_in_partition options p pair.0) 1 0) yes ∙ ap (λ b. cond b 1 0) elsewhere in
                  let mine : in_seat g (pair ∷ pairs) (g % options.readers) ≡ in_seat (g + 1) pairs (g % options.readers)
                  = own ∙ ap (λ b. length (cond b (pair ∷ line_pairs_in options p (pairs_of options (g % options.readers) (g + 1) pairs)) (line_pairs_in options p (pairs_of options (g % options.readers) (g + 1) pairs)))) elsewhere in
                  let sums = same_sums options.readers (in_seat g (pair ∷ pairs)) (in_seat (g + 1) pairs) (λ q less. by q (g % options.readers == q) refl mine others) in
                  omega arith
            ] refl
      ] refl
    where
      by : (q : ℕ) (b : Bool) → (g % options.readers == q) ≡ b → in_seat g (pair ∷ pairs) (g % options.readers) ≡ in_seat (g + 1) pairs (g % options.readers)
          → ((x : ℕ) → g % options.readers ≢ x → in_seat g (pair ∷ pairs) x ≡ in_seat (g + 1) pairs x) → in_seat g (pair ∷ pairs) q ≡ in_seat (g + 1) pairs q
      by q true e mine others = subst (λ (x : ℕ). in_seat g (pair ∷ pairs) x ≡ in_seat (g + 1) pairs x) (eqb-true (g % options.readers) q e) mine
      by q false e mine others = others q (λ same. absurd (true≢false (sym (eq-eqb (g % options.readers) q same) ∙ e)))
