-- Where rounds begin in lines before which whole rounds stand.
use Rattle.std.proofs.Common.{◌≡◌, ℕ, zero, suc, ◌+◌, ◌<◌, ◌≤◌, List, [], ◌∷◌, ◌++◌, length, take, refl, sym, ap, subst, arith, cond, true, false}
use Rattle.std.specs.List.{AllZip}
use Rattle.std.proofs.lemmas.List.{take-append-le}
use Rattle.std.proofs.lemmas.List.Sums.{sum_by-append}
use Rattle.std.proofs.lemmas.Grind.{common_steps}
use Rattle.partition_model.specs.declared.options.Options.{Options}
use Rattle.mica_trace.specs.declared.line.TraceLine.{TraceLine}
use Rattle.mica_trace.specs.declared.report.Line.{Line}
use Rattle.mica_trace.specs.TraceGrammar.{is_sync, syncs_in}
use Rattle.mica_trace.specs.Rounds.{round_of, lines_before, write_in, writes_of}
use Rattle.mica_trace.specs.LawfulReport.{IsLineFor, steps_of}
use Rattle.mica_trace.proofs.LineLemmas.{syncs_cons}
use Rattle.mica_trace.specs.RoundReport.{EndsRound, IsOneRound}
use Rattle.mica_trace.proofs.ListParts.{take_past, length-cons_option}

ended_some : (line : TraceLine) (lines : List TraceLine) → EndsRound (line ∷ lines) → 0 < syncs_in (line ∷ lines)
ended_some line [] ended = let c = subst (λ b. syncs_in (line ∷ []) ≡ cond b 1 0 + syncs_in []) ended (syncs_cons line []) in omega arith
ended_some line (next ∷ lines) ended = let later = ended_some next lines ended in let c = syncs_cons line (next ∷ lines) in omega arith

-- the rounds that end before the last of these lines begin where they did
pub before_old : (before round : List TraceLine) (k : ℕ) → k < syncs_in before → lines_before (before ++ round) k ≡ lines_before before k
before_old [] round k less = absurd (omega arith)
before_old (line ∷ before) round zero less = refl
before_old (line ∷ before) round (suc k) less =
    let counted = syncs_cons line before in
    ap (λ ls. line ∷ ls)
    (elim (is_sync line) as (λ b. syncs_in (line ∷ before) ≡ cond b 1 0 + syncs_in before → lines_before (before ++ round) (cond b k (suc k)) ≡ lines_before before (cond b k (suc k))) [
      | true ↦ λ c. before_old before round k (omega arith)
      | false ↦ λ c. before_old before round (suc k) (omega arith)
    ] counted)

-- the next round begins behind whole rounds
pub before_whole : (before round : List TraceLine) (k : ℕ) → EndsRound before → k ≡ syncs_in before → lines_before (before ++ round) k ≡ before
before_whole [] [] k ended is = refl
before_whole [] (line ∷ round) zero ended is = refl
before_whole [] (line ∷ round) (suc k) ended is = absurd (omega arith)
before_whole (line ∷ before) round zero ended is = let some = ended_some line before ended in absurd (omega arith)
before_whole (line ∷ []) round (suc k) ended is =
    let c = subst (λ b. syncs_in (line ∷ []) ≡ cond b 1 0 + syncs_in []) ended (syncs_cons line []) in
    ap (λ ls. line ∷ ls) (subst (λ b. lines_before round (cond b k (suc k)) ≡ []) (sym ended) (before_whole [] round k tt (omega arith)))
before_whole (line ∷ next ∷ before) round (suc k) ended is =
    let counted = syncs_cons line (next ∷ before) in
    ap (λ ls. line ∷ ls)
    (elim (is_sync line) as (λ b. syncs_in (line ∷ next ∷ before) ≡ cond b 1 0 + syncs_in (next ∷ before) → lines_before (next ∷ before ++ round) (cond b k (suc k)) ≡ next ∷ before) [
      | true ↦ λ c. before_whole (next ∷ before) round k ended (omega arith)
      | false ↦ λ c. before_whole (next ∷ before) round (suc k) ended (omega arith)
    ] counted)

one_round : (round : List TraceLine) → IsOneRound round → lines_before round 1 ≡ round
one_round [] one = refl
one_round (line ∷ []) one = refl
one_round (line ∷ next ∷ round) one = grind (arith, common_steps, one_round (next ∷ round) one.1)

-- and it is all that is behind them
pub before_all : (before round : List TraceLine) (k : ℕ) → EndsRound before → IsOneRound round → k ≡ syncs_in before + 1 → lines_before (before ++ round) k ≡ before ++ round
before_all [] round k ended one is = let first : 1 ≡ k = omega arith in subst (λ n. lines_before round n ≡ round) first (one_round round one)
before_all (line ∷ before) round zero ended one is = absurd (omega arith)
before_all (line ∷ []) round (suc k) ended one is =
    let c = subst (λ b. syncs_in (line ∷ []) ≡ cond b 1 0 + syncs_in []) ended (syncs_cons line []) in
    ap (λ ls. line ∷ ls) (subst (λ b. lines_before round (cond b k (suc k)) ≡ round) (sym ended) (before_all [] round k tt one (omega arith)))
before_all (line ∷ next ∷ before) round (suc k) ended one is =
    let counted = syncs_cons line (next ∷ before) in
    ap (λ ls. line ∷ ls)
    (elim (is_sync line) as (λ b. syncs_in (line ∷ next ∷ before) ≡ cond b 1 0 + syncs_in (next ∷ before) → lines_before (next ∷ before ++ round) (cond b k (suc k)) ≡ next ∷ before ++ round) [
      | true ↦ λ c. before_all (next ∷ before) round k ended one (omega arith)
      | false ↦ λ c. before_all (next ∷ before) round (suc k) ended one (omega arith)
    ] counted)

-- the round of a line

pub round_old : (before round : List TraceLine) (n : ℕ) → n ≤ length before → round_of (before ++ round) n ≡ round_of before n
round_old before round n le = ap syncs_in (take-append-le n before round le)

pub round_low : (before : List TraceLine) (n : ℕ) → n < length before → EndsRound before → round_of before n < syncs_in before
round_low [] n less ended = absurd (omega arith)
round_low (line ∷ before) zero less ended = ended_some line before ended
round_low (line ∷ []) (suc n) less ended = absurd (omega arith)
round_low (line ∷ next ∷ before) (suc n) less ended = grind (arith, common_steps, round_low (next ∷ before) n (omega arith) ended)

no_sync : (round : List TraceLine) (k : ℕ) → IsOneRound round → k < length round → syncs_in (take k round) ≡ 0
no_sync [] k one less = absurd (omega arith)
no_sync (line ∷ round) zero one less = refl
no_sync (line ∷ []) (suc k) one less = absurd (omega arith)
no_sync (line ∷ next ∷ round) (suc k) one less = grind (arith, common_steps, no_sync (next ∷ round) k one.1 (omega arith))

pub round_new : (before round : List TraceLine) (k : ℕ) → IsOneRound round → k < length round → round_of (before ++ round) (length before + k) ≡ syncs_in before
round_new before round k one less = grind (arith, common_steps, no_sync round k one less, sum_by-append, take_past before round k)

module _ (options : Options) (p : ℕ) where
  pub writes_before_low : (lines : List TraceLine) (k : ℕ) → length (writes_of options p (lines_before lines k)) ≤ length (writes_of options p lines)
  writes_before_low [] k = omega arith
  writes_before_low (line ∷ lines) zero = omega arith
  writes_before_low (line ∷ lines) (suc k) = length-cons_option (write_in options p line) _ _ (writes_before_low lines (cond (is_sync line) k (suc k)))

  -- a partition has as many steps as writes
  pub steps_count : (lines : List TraceLine) (report : List Line) → AllZip IsLineFor lines report → length (steps_of options p lines report) ≡ length (writes_of options p lines)
  steps_count [] [] all = refl
  steps_count [] (r ∷ report) all = absurd all
  steps_count (line ∷ lines) [] all = absurd all
  steps_count (line ∷ lines) (r ∷ report) all = grind (arith, common_steps, steps_count lines report all.1)
