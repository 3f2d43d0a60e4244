-- A report has one verdict.
use Rattle.std.proofs.Common.{◌≡◌, ℕ, zero, suc, ◌↔◌, inl, inr, List, [], ◌∷◌, ◌++◌, take, Some, None, refl, subst, arith, slice_get}
use Rattle.std.specs.List.{AllZip, cons_option}
use Rattle.std.proofs.lemmas.Grind.{common_steps}
use Rattle.mica_words.proofs.Hashes.{partition_of-below}
use Rattle.partition_model.specs.declared.options.Options.{Options}
use Rattle.partition_model.specs.Options.{IsValid}
use Rattle.partition_model.specs.History.{History}
use Rattle.partition_model.specs.Run.{RunStep, IsRunFrom, history_of}
use Rattle.mica_trace.specs.declared.line.TraceLine.{TraceLine}
use Rattle.mica_trace.specs.declared.report.Line.{Line}
use Rattle.mica_trace.specs.Rounds.{partition_in, write_by}
use Rattle.mica_trace.specs.LawfulReport.{IsLineFor, step_by, step_in, steps_of, LawfulReport}
use Rattle.report_check.specs.declared.check.Verdict.{Verdict}
use Rattle.report_check.specs.declared.check.Verdict.TheVariants.{Lawful, Unlawful}
use Rattle.report_check.specs.FirstUnlawful.{IsNowhere, IsFirst, IsMisfit, IsWrongWrite, IsWrongGet, IsFirstUnlawful, IsUnlawfulAt, IsVerdict}

-- lines that stand for those of the trace fit
pub all_fit : (trace : List TraceLine) (report : List Line) → AllZip IsLineFor trace report → IsNowhere (IsMisfit trace report)
all_fit [] [] all n bad = bad
all_fit [] (r ∷ report) all n bad = absurd all
all_fit (l ∷ trace) [] all n bad = absurd all
all_fit (l ∷ trace) (r ∷ report) all zero bad = bad all.0
all_fit (l ∷ trace) (r ∷ report) all (suc n) bad = all_fit trace report all.1 n bad

-- each step of a run is one from the history that the steps before it leave
pub run_at : (options : Options) (p : ℕ) (history : History) (trace : List TraceLine) (report : List Line) (n : ℕ) (line : TraceLine) (printed : Line) (step : RunStep)
    → IsRunFrom options history (steps_of options p trace report) → slice_get trace n ≡ Some line → slice_get report n ≡ Some printed → partition_in options line ≡ p
    → step_by (write_by line.op line.key line.value) printed ≡ Some step
    → IsRunFrom options (history ++ history_of (steps_of options p (take n trace) (take n report))) (step ∷ [])
run_at options p history [] report n line printed step run asked answered inside written = absurd (cc)
run_at options p history (l ∷ trace) [] n line printed step run asked answered inside written = absurd (cc)
run_at options p history (l ∷ trace) (r ∷ report) zero line printed step run asked answered inside written = grind (arith, common_steps)
run_at options p history (l ∷ trace) (r ∷ report) (suc n) line printed step run asked answered inside written =
    elim (step_in options p (l, r)) as (λ o. IsRunFrom options history (cons_option o (steps_of options p trace report)) → IsRunFrom options (history ++ history_of (cons_option o (steps_of options p (take n trace) (take n report)))) (step ∷ [])) [
      | None ↦ λ run. run_at options p history trace report n line printed step run asked answered inside written
      | Some first ↦ λ run.
          grind (arith, common_steps, run_at options p (history ++ history_of (first ∷ [])) trace report n line printed step run.2 asked answered inside written)
    ] run

-- so no write of the partition is wrong
pub run_right : (options : Options) (p : ℕ) (trace : List TraceLine) (report : List Line) (n : ℕ) (line : TraceLine) → IsRunFrom options [] (steps_of options p trace report)
    → slice_get trace n ≡ Some line → partition_in options line ≡ p → ¬ (IsWrongWrite options trace report n)
run_right options p trace report n line run asked inside wrong = grind (arith, common_steps, run_at options p [] trace report n)

lawful_right : (options : Options) (trace : List TraceLine) (report : List Line) → IsValid options → LawfulReport options trace report → IsNowhere (IsWrongWrite options trace report)
lawful_right options trace report valid lawful n wrong =
    let p = partition_in options wrong.line in
    let below = partition_of-below options.hashing wrong.line.key options.partitions valid.partitions.0 in
    run_right options p trace report n wrong.line (lawful.writes p below) wrong.asked refl wrong

lawful_gets : (options : Options) (trace : List TraceLine) (report : List Line) → LawfulReport options trace report → IsNowhere (IsWrongGet options trace report)
lawful_gets options trace report lawful n wrong =
    elim wrong.wrong as (λ _. ⊥) [
      | inl denied ↦ denied (lawful.gets n wrong.line wrong.printed wrong.get)
      | inr falls ↦
          let kept = lawful.order falls.place n falls.other wrong.line falls.answer wrong.printed falls.earlier falls.get wrong.get falls.reader falls.partition in
          let greater = falls.greater in
          absurd (omega arith)
    ]

-- the walks come to the end of a lawful report
pub lawful_is_none : (options : Options) (trace : List TraceLine) (report : List Line) (n : ℕ) → IsValid options → LawfulReport options trace report → ¬ (IsFirstUnlawful options trace report n)
lawful_is_none options trace report n valid lawful found =
    grind (arith, common_steps, all_fit trace report lawful.lines n, lawful_right options trace report valid lawful n, lawful_gets options trace report lawful n)

-- there is one first place
first_once : (P : ℕ → Type 0) (a b : ℕ) → IsFirst P a → IsFirst P b → a ≡ b
first_once P a b one two = grind (arith, common_steps)

found_once : (options : Options) (trace : List TraceLine) (report : List Line) (a b : ℕ) → IsFirstUnlawful options trace report a → IsFirstUnlawful options trace report b → a ≡ b
found_once options trace report a b one two =
    elim one as (λ _. a ≡ b) [
      | inl misfit ↦ grind (arith, common_steps)
      | inr after ↦ elim two as (λ _. a ≡ b) [
        | inl other ↦ absurd (after.0 b other.holds)
        | inr later ↦ elim after.1 as (λ _. a ≡ b) [
          | inl write ↦ elim later.1 as (λ _. a ≡ b) [
            | inl other ↦ first_once _ a b write other
            | inr last ↦ absurd (last.0 a write.holds)
          ]
          | inr last ↦ elim later.1 as (λ _. a ≡ b) [
            | inl other ↦ absurd (last.0 b other.holds)
            | inr other ↦ first_once _ a b last.1 other.1
          ]
        ]
      ]
    ]

pub verdict_once : (options : Options) (trace : List TraceLine) (report : List Line) (a b : Verdict) → IsValid options → IsVerdict options trace report a → IsVerdict options trace report b → a ≡ b
verdict_once options trace report Lawful Lawful valid one two = refl
verdict_once options trace report Lawful (Unlawful n) valid one two = absurd (lawful_is_none options trace report two.0 valid one two.2)
verdict_once options trace report (Unlawful m) Lawful valid one two = absurd (lawful_is_none options trace report one.0 valid two one.2)
verdict_once options trace report (Unlawful m) (Unlawful n) valid one two = grind (arith, common_steps, found_once options trace report one.0 two.0 one.2 two.2)

-- each verdict comes exactly where it is that of the report
pub exactly_lawful : (options : Options) (trace : List TraceLine) (report : List Line) (v : Verdict) → IsValid options → IsVerdict options trace report v → (v ≡ Lawful) ↔ LawfulReport options trace report
exactly_lawful options trace report v valid is = ((λ e. subst (IsVerdict options trace report) e is), (λ lawful. verdict_once options trace report v Lawful valid is lawful))

pub exactly_unlawful : (options : Options) (trace : List TraceLine) (report : List Line) (v : Verdict) (n : ℕ) → IsValid options → IsVerdict options trace report v → (v ≡ Unlawful n) ↔ IsUnlawfulAt options trace report n
exactly_unlawful options trace report v n valid is = ((λ e. subst (IsVerdict options trace report) e is), (λ at. verdict_once options trace report v (Unlawful n) valid is at))

-- an answer that is so has its verdict
pub is_verdict : (options : Options) (trace : List TraceLine) (report : List Line) (v : Verdict) → ((v ≡ Lawful) ↔ LawfulReport options trace report)
    → ((n : ℕ) → (v ≡ Unlawful n) ↔ IsUnlawfulAt options trace report n) → IsVerdict options trace report v
is_verdict options trace report Lawful lawful unlawful = lawful.0 refl
is_verdict options trace report (Unlawful n) lawful unlawful = (unlawful n).0 refl
