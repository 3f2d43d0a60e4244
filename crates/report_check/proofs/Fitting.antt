-- The first line that stands for no line of the trace.
use Rattle.std.proofs.Common.{◌≡◌, ◌≢◌, ℕ, zero, suc, ◌+◌, ◌<◌, ◌≤◌, List, [], ◌∷◌, length, take, Some, None, refl, sym, subst, arith, true, false, ltb, ltb-true, ltb-false, slice_get, rules}
use Rattle.std.specs.List.{AllZip}
use Rattle.std.proofs.lemmas.Option.{slice_get_past}
use Rattle.std.proofs.lemmas.Grind.{common_steps}
use Rattle.list_laws.proofs.Places.{element_at}
use Rattle.mica_trace.specs.declared.line.TraceLine.{TraceLine}
use Rattle.mica_trace.specs.declared.report.Line.{Line}
use Rattle.mica_trace.specs.LawfulReport.{IsLineFor}
use Rattle.mica_trace.proofs.ListParts.{AllZip-append}
use Rattle.report_check.specs.FirstUnlawful.{Misfits, IsMisfit, IsFirst}
use Rattle.report_check.proofs.Histories.{take_one, get_take}
use Rattle.report_check.proofs.Walks.{all_fit}

pub fit_more : (trace : List TraceLine) (report : List Line) (n : ℕ) (line : TraceLine) (printed : Line) → slice_get trace n ≡ Some line → slice_get report n ≡ Some printed
    → IsLineFor line printed → AllZip IsLineFor (take n trace) (take n report) → AllZip IsLineFor (take (n + 1) trace) (take (n + 1) report)
fit_more trace report n line printed asked answered fits all =
    grind (arith, common_steps, take_one trace n line asked, take_one report n printed answered, AllZip-append IsLineFor (take n trace) (line ∷ []) (take n report) (printed ∷ []) all (fits, tt))

fit_before : (trace : List TraceLine) (report : List Line) (n m : ℕ) → AllZip IsLineFor (take n trace) (take n report) → m < n → ¬ (IsMisfit trace report m)
fit_before trace report n m all less bad = search (rules, all_fit, slice_get, get_take, take)

pub first_here : (trace : List TraceLine) (report : List Line) (n : ℕ) (line : TraceLine) (printed : Line) → slice_get trace n ≡ Some line → slice_get report n ≡ Some printed
    → ¬ (IsLineFor line printed) → AllZip IsLineFor (take n trace) (take n report) → IsFirst (IsMisfit trace report) n
first_here trace report n line printed asked answered denied all = grind (arith, common_steps, fit_before trace report n)

pub first_end : (trace : List TraceLine) (report : List Line) (n : ℕ) → n ≤ length trace → n ≤ length report → (length trace ≡ n → length report ≢ n) → (n < length trace → n < length report → ⊥)
    → AllZip IsLineFor (take n trace) (take n report) → IsFirst (IsMisfit trace report) n
first_end trace report n low low' apart past all = record {
  holds = elim (ltb n (length trace)) as (λ t. ltb n (length trace) ≡ t → IsMisfit trace report n) [
    | true ↦ λ e.
        grind (arith, common_steps, ltb-true n (length trace) e, slice_get_past report n, ltb-true n (length report), ltb-false n (length report), element_at trace n)
    | false ↦ λ f.
        let high = ltb-false n (length trace) f in
        let none = slice_get_past trace n high in
        let other : length report ≢ n = apart (omega arith) in
        let some = element_at report n (omega arith) in
        subst (λ o. Misfits o (slice_get report n)) (sym none) (subst (λ o. Misfits None o) (sym some.1) tt)
  ] refl;
  before = λ m less. fit_before trace report n m all less;
}

-- lines at one place
pub all_at : {X Y : Type 0} (R : X → Y → Type 0) (xs : List X) (ys : List Y) (n : ℕ) (x : X) (y : Y) → AllZip R xs ys → slice_get xs n ≡ Some x → slice_get ys n ≡ Some y → R x y
all_at R [] ys n x y all is_x is_y = absurd (cc)
all_at R (a ∷ xs) [] n x y all is_x is_y = absurd all
all_at R (a ∷ xs) (b ∷ ys) zero x y all is_x is_y = let one : a ≡ x = cc in let two : b ≡ y = cc in subst (λ u. R u y) one (subst (λ v. R a v) two all.0)
all_at R (a ∷ xs) (b ∷ ys) (suc n) x y all is_x is_y = all_at R xs ys n x y all.1 is_x is_y
