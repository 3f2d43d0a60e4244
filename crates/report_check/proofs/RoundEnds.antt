-- Where rounds begin and end.
use Rattle.std.proofs.Common.{◌≡◌, ℕ, zero, suc, ◌+◌, ◌<◌, ◌≤◌, ◌⊎◌, inl, List, [], ◌∷◌, ◌++◌, length, take, Some, refl, ap, ◌∙◌, arith, append-nil, cond, true, false, slice_get, rules}
use Rattle.std.proofs.lemmas.Option.{slice_get_within}
use Rattle.std.proofs.lemmas.Grind.{common_steps}
use Rattle.mica_trace.specs.declared.line.TraceLine.{TraceLine}
use Rattle.mica_trace.specs.TraceGrammar.{is_sync, syncs_in}
use Rattle.mica_trace.specs.Rounds.{lines_before}
use Rattle.mica_trace.proofs.LineLemmas.{syncs_cons, syncs_push}
use Rattle.report_check.specs.Moments.{StartsRound, IsRound, AreRounds}
use Rattle.report_check.proofs.Histories.{take_one, take_past}

no_lines : (lines : List TraceLine) → lines_before lines 0 ≡ []
no_lines [] = refl
no_lines (l ∷ lines) = refl

-- the next round begins behind a sync
pub behind_sync : (lines : List TraceLine) (n : ℕ) (line : TraceLine) → slice_get lines n ≡ Some line → is_sync line ≡ true
    → lines_before lines (suc (syncs_in (take n lines))) ≡ take (suc n) lines
behind_sync [] n line is sync = absurd (cc)
behind_sync (l ∷ lines) zero line is sync = grind (arith, common_steps, no_lines lines)
behind_sync (l ∷ lines) (suc n) line is sync =
    let later = behind_sync lines n line is sync in
    let counted = syncs_cons l (take n lines) in
    ap (λ ls. l ∷ ls)
    (elim (is_sync l) as (λ b. syncs_in (l ∷ take n lines) ≡ cond b 1 0 + syncs_in (take n lines)
    → lines_before lines (cond b (syncs_in (l ∷ take n lines)) (suc (syncs_in (l ∷ take n lines)))) ≡ take (suc n) lines) [
      | true ↦ λ c. let at : syncs_in (l ∷ take n lines) ≡ suc (syncs_in (take n lines)) = omega arith in ap (lines_before lines) at ∙ later
      | false ↦ λ c. let at : suc (syncs_in (l ∷ take n lines)) ≡ suc (syncs_in (take n lines)) = omega arith in ap (lines_before lines) at ∙ later
    ] counted)

-- the last round ends with the lines
pub past_syncs : (lines : List TraceLine) (k : ℕ) → syncs_in lines < k → lines_before lines k ≡ lines
past_syncs [] k less = refl
past_syncs (l ∷ lines) zero less = absurd (omega arith)
past_syncs (l ∷ lines) (suc k) less = grind (arith, syncs_cons l lines, is_sync l, past_syncs lines k, past_syncs lines (suc k))

pub starts : (lines : List TraceLine) → StartsRound lines 0
starts lines = no_lines lines

-- one line more
pub syncs_more : (lines : List TraceLine) (n : ℕ) (line : TraceLine) → slice_get lines n ≡ Some line
    → syncs_in (take (n + 1) lines) ≡ syncs_in (take n lines) + cond (is_sync line) 1 0
syncs_more lines n line is = ap syncs_in (take_one lines n line is) ∙ syncs_push (take n lines) line

pub next_starts : (lines : List TraceLine) (n : ℕ) (line : TraceLine) → slice_get lines n ≡ Some line → is_sync line ≡ true → StartsRound lines (n + 1)
next_starts lines n line is sync = search (rules, syncs_more lines n line is, behind_sync lines n line is sync)

-- How far a round goes

abbrev pub IsInside : List TraceLine → ℕ → ℕ → Type 0
IsInside lines from to = (n : ℕ) → from ≤ n → n ≤ to → syncs_in (take n lines) ≡ syncs_in (take from lines)

pub round_to_sync : (lines : List TraceLine) (from place : ℕ) (line : TraceLine) → StartsRound lines from → slice_get lines place ≡ Some line → is_sync line ≡ true → from ≤ place
    → IsInside lines from place → IsRound lines from (place + 1)
round_to_sync lines from place line begins is sync low inside = search (rules, starts, slice_get_within lines place line is, behind_sync lines place line is sync)

pub round_to_end : (lines : List TraceLine) (from : ℕ) → StartsRound lines from → from ≤ length lines → IsInside lines from (length lines) → IsRound lines from (length lines)
round_to_end lines from begins low inside = search (rules, take_past, inside, begins, low, past_syncs, length)

-- Where the rounds end up to a place: with the ends that are left they are all.

pub record AreEndsTo (lines : List TraceLine) (from : ℕ) (ends : List ℕ) : Type 0 where
  pub high : from ≤ length lines
  pub begins : StartsRound lines from ⊎ (from ≡ length lines)
  pub whole : (later : List ℕ) → AreRounds lines from later → AreRounds lines 0 (ends ++ later)

pub ends_none : (lines : List TraceLine) → AreEndsTo lines 0 []
ends_none lines = record { high = omega arith; begins = inl (starts lines); whole = λ later are. are }

pub ends_all : (lines : List TraceLine) (from : ℕ) (ends : List ℕ) → AreEndsTo lines from ends → length lines ≤ from → AreRounds lines 0 ends
ends_all lines from ends so_far past = grind (arith, common_steps, append-nil ends)
