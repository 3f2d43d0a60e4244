-- The writes before a line stand between those before its round and those before the round's end.
use Rattle.std.proofs.Common.{◌≡◌, ℕ, zero, suc, ◌+◌, ◌≤◌, List, [], ◌∷◌, length, take, Option, Some, None, refl, sym, ◌∙◌, subst, cond, true, false, arith}
use Rattle.std.specs.List.{cons_option}
use Rattle.std.proofs.lemmas.List.Sums.{sum_by-cons}
use Rattle.std.proofs.lemmas.Grind.{common_steps}
use Rattle.partition_model.specs.declared.options.Options.{Options}
use Rattle.mica_trace.specs.declared.line.TraceLine.{TraceLine}
use Rattle.mica_trace.specs.TraceGrammar.{is_sync}
use Rattle.mica_trace.specs.Rounds.{round_of, write_in, writes_of, round_begin, round_end}
use Rattle.mica_trace.specs.ExactReport.{writes_before}

length_cons : {X : Type 0} (o : Option X) (xs ys : List X) → length xs ≤ length ys → length (cons_option o xs) ≤ length (cons_option o ys)
length_cons None xs ys le = le
length_cons (Some x) xs ys le = omega arith

round_cons : (line : TraceLine) (lines : List TraceLine) (n : ℕ) → round_of (line ∷ lines) (suc n) ≡ cond (is_sync line) 1 0 + round_of lines n
round_cons line lines n = sum_by-cons (λ l. cond (is_sync l) 1 0) line (take n lines)

take_nil : (n : ℕ) → take {A = TraceLine} n [] ≡ []
take_nil zero = refl
take_nil (suc n) = refl

module _ (options : Options) (p : ℕ) where
  before_round : (lines : List TraceLine) (n k : ℕ) → k ≡ round_of lines n → round_begin options p lines k ≤ writes_before options p lines n
  before_round [] n k is = omega arith
  before_round (line ∷ lines) zero zero is = omega arith
  before_round (line ∷ lines) zero (suc k) is = absurd (omega arith)
  before_round (line ∷ lines) (suc n) zero is = omega arith
  before_round (line ∷ lines) (suc n) (suc k) is =
      let whole = is ∙ round_cons line lines n in
      length_cons (write_in options p line) _ _
      (elim (is_sync line) as (λ b. suc k ≡ cond b 1 0 + round_of lines n → round_begin options p lines (cond b k (suc k)) ≤ writes_before options p lines n) [
        | true ↦ λ e. before_round lines n k (omega arith)
        | false ↦ λ e. before_round lines n (suc k) (omega arith)
      ] whole)

  before_end : (lines : List TraceLine) (n k : ℕ) → k ≡ round_of lines n → writes_before options p lines n ≤ round_end options p lines k
  before_end [] n k is = subst (λ (ls : List TraceLine). length (writes_of options p ls) ≤ 0) (sym (take_nil n)) (omega arith)
  before_end (line ∷ lines) zero k is = omega arith
  before_end (line ∷ lines) (suc n) k is = grind (arith, common_steps, before_end lines n (round_of lines n) refl)

  pub in_round_begin : (lines : List TraceLine) (n : ℕ) → round_begin options p lines (round_of lines n) ≤ writes_before options p lines n
  in_round_begin lines n = before_round lines n (round_of lines n) refl

  pub in_round_end : (lines : List TraceLine) (n : ℕ) → writes_before options p lines n ≤ round_end options p lines (round_of lines n)
  in_round_end lines n = before_end lines n (round_of lines n) refl

  pub writes_rise : (lines : List TraceLine) (m n : ℕ) → m ≤ n → writes_before options p lines m ≤ writes_before options p lines n
  writes_rise lines zero n le = omega arith
  writes_rise [] (suc m) n le = omega arith
  writes_rise (line ∷ lines) (suc m) zero le = absurd (omega arith)
  writes_rise (line ∷ lines) (suc m) (suc n) le = length_cons (write_in options p line) _ _ (writes_rise lines m n (omega arith))
