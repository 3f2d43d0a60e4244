-- Gets judged one after another by one state.
use Rattle.std.proofs.Common.{rules}
use Rattle.std.proofs.Common.{◌≡◌, ℕ, ◌+◌, ◌<◌, ◌≤◌, ◌⊎◌, inl, inr, List, length, Option, Some, IfSome, refl, sym, subst, arith, ltb-true, ltb-false, slice_get}
use Rattle.std.proofs.lemmas.Option.{IfSome_then, slice_get_within}
use Rattle.std.proofs.lemmas.Grind.{common_steps}
use Rattle.partition_model.specs.History.{State, stamp_in}
use Rattle.mica_trace.specs.declared.line.TraceLine.{TraceLine}
use Rattle.mica_trace.specs.declared.report.Line.{Line}
use Rattle.report_check.specs.declared.asked.Asked.{Asked}
use Rattle.report_check.specs.declared.settling.Settling.{Settling}
use Rattle.report_check.specs.Earlier.{earlier}
use Rattle.report_check.specs.Judged.{LeavesMissed}
use Rattle.report_check.specs.Settling.{AnswersNow, IsMissedBy, HasJudged, IsAhead, StampsRise}
use Rattle.report_check.proofs.SettledGets.{earlier_here, earlier_kept, earlier_one}

module _ (state : State) (trace : List TraceLine) (report : List Line) (asked : List Asked) where
  abbrev Missed : Settling → ℕ → ℕ → Type 0
  Missed old next n = (old.missed ≡ Some n)
      ⊎ ((j : ℕ) × (a : Asked) × (old.next ≤ j) × (j < next) × (slice_get asked j ≡ Some a) × (n ≡ a.place) × (¬ (AnswersNow state trace report a.place)))

  pub judged_none : (old : Settling) → old.next ≤ length asked → HasJudged state trace report asked old old
  judged_none old high = grind (arith, common_steps)

  wider : (old : Settling) (next n : ℕ) → Missed old next n → Missed old (next + 1) n
  wider old next n is = grind (arith, common_steps)

  -- the place of one more get is that of this one, or it comes before it
  same_get : (j next : ℕ) (a b : Asked) → slice_get asked next ≡ Some a → slice_get asked j ≡ Some b → j ≡ next → a ≡ b
  same_get j next a b is at here = let at_next : slice_get asked next ≡ Some b = subst (λ k. slice_get asked k ≡ Some b) here at in cc

  pub judged_right : (old now : Settling) (a : Asked) → HasJudged state trace report asked old now → slice_get asked now.next ≡ Some a → a.stamp ≤ stamp_in state
      → AnswersNow state trace report a.place → HasJudged state trace report asked old (record { next = now.next + 1; missed = now.missed })
  judged_right old now a so_far is stamp answers = grind (arith, common_steps, slice_get_within asked now.next a, ltb-true, ltb-false, same_get, wider old now.next)

  pub judged_wrong : (old now : Settling) (a : Asked) → HasJudged state trace report asked old now → slice_get asked now.next ≡ Some a → a.stamp ≤ stamp_in state
      → ¬ (AnswersNow state trace report a.place) → HasJudged state trace report asked old (record { next = now.next + 1; missed = earlier now.missed a.place })
  judged_wrong old now a so_far is stamp denied =
      let within = slice_get_within asked now.next a is in
      let low = so_far.low in
      let missed = earlier now.missed a.place in
      record {
        low = omega arith;
        high = omega arith;
        passed = λ j b low' less at. grind (arith, common_steps);
        judged = λ j b low' less at. grind (arith, common_steps);
        kept = λ n was. earlier_kept now.missed a.place n (so_far.kept n was);
        missed = elim (earlier_one now.missed a.place) as (λ _. IfSome missed (Missed old (now.next + 1))) [
          | inl same ↦ subst (λ o. IfSome o (Missed old (now.next + 1))) (sym same) (IfSome_then now.missed so_far.missed (λ n is. wider old now.next n is))
          | inr this ↦ subst (λ o. IfSome o (Missed old (now.next + 1))) (sym this) (inr (now.next, a, low, omega arith, is, refl, denied))
        ];
      }

  -- all that are left have greater stamps, where the next one has, or none is left
  pub ahead_of : (next : ℕ) (a : Asked) → StampsRise asked → slice_get asked next ≡ Some a → stamp_in state < a.stamp → IsAhead (stamp_in state) asked next
  ahead_of next a rising is above j b low at = let rise = rising next j a b low is at in omega arith

  pub none_ahead : (next : ℕ) → length asked ≤ next → IsAhead (stamp_in state) asked next
  none_ahead next past j b low at = let less = slice_get_within asked j b at in absurd (omega arith)

-- the gets that are left, looked at up to one
pub record LeavesUpTo (asked : List Asked) (settling : Settling) (at : ℕ) (missed : Option ℕ) : Type 0 where
  pub low : settling.next ≤ at
  pub kept : (n : ℕ) → IsMissedBy settling.missed n → IsMissedBy missed n
  pub left : (j : ℕ) (a : Asked) → settling.next ≤ j → j < at → slice_get asked j ≡ Some a → IsMissedBy missed a.place
  pub from : IfSome missed (λ n. (settling.missed ≡ Some n)
      ⊎ ((j : ℕ) × (a : Asked) × (settling.next ≤ j) × (slice_get asked j ≡ Some a) × (n ≡ a.place)))

module _ (asked : List Asked) (settling : Settling) where
  pub leaves_first : LeavesUpTo asked settling settling.next settling.missed
  leaves_first = grind (arith, common_steps)

  pub leaves_more : (at : ℕ) (missed : Option ℕ) (a : Asked) → LeavesUpTo asked settling at missed → slice_get asked at ≡ Some a → LeavesUpTo asked settling (at + 1) (earlier missed a.place)
  leaves_more at missed a so_far is = search (rules, earlier_kept, ltb-true, ltb-false, earlier_here, earlier_one)

  pub leaves_all : (at : ℕ) (missed : Option ℕ) → LeavesUpTo asked settling at missed → length asked ≤ at → LeavesMissed asked settling missed
  leaves_all at missed so_far past = grind (arith, common_steps, slice_get_within asked)
