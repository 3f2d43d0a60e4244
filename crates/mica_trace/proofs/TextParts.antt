-- The texts of a report's parts, one after another, and that a report for a trace has a text.
use Rattle.std.proofs.Common.{◌≡◌, ℕ, zero, suc, ◌+◌, ◌*◌, ◌<◌, ◌≤◌, ◌++◌, ◌∷◌, [], Some, List, length, map, take, drop, slice_get, refl, sym, ap, subst, ◌∙◌, arith}
use Rattle.std.proofs.lemmas.Grind.{flat_map-append}
use Rattle.std.proofs.lemmas.List.{take-append-le, take_all, drop-drop, length-append, append_assoc}
use Rattle.std.proofs.Math.Seq.{take-add, take-append-add}
use Rattle.std.specs.List.{AllByRecursion, AllZip}
use Rattle.std.proofs.lemmas.Grind.{common_steps}
use Rattle.mica_trace.specs.declared.line.TraceLine.{TraceLine}
use Rattle.mica_trace.specs.declared.report.Line.{Line}
use Rattle.mica_trace.specs.ReportGrammar.{report_text, IsReportLine}
use Rattle.mica_trace.specs.LawfulReport.{IsLineFor}
use Rattle.mica_trace.specs.TextParts.{joined, AreTexts}

-- the texts before one of them and some of its bytes are what all texts begin with
pub part_written : (texts : List (List ℕ)) (i : ℕ) (text : List ℕ) (n : ℕ) → slice_get texts i ≡ Some text → n < length text
    → (k : ℕ) × (k < length (joined texts)) × (joined (take i texts) ++ take n text ≡ take k (joined texts))
part_written [] i text n at less = absurd cc
part_written (t ∷ texts) zero text n at less = grind (arith, common_steps, length-append text (joined texts), take-append-le n text (joined texts) (omega arith))
part_written (t ∷ texts) (suc i) text n at less =
    grind (
      arith,
      common_steps,
      part_written texts i text n at less,
      length-append t (joined texts),
      append_assoc t (joined (take i texts)) (take n text),
      take-append-add t (joined texts) (part_written texts i text n at less).0,
    )

-- the texts of the parts from a line on are the text of their lines
from_line : (size : ℕ) (lines : List Line) (from : ℕ) (texts : List (List ℕ))
    → ((i : ℕ) (text : List ℕ) → slice_get texts i ≡ Some text → text ≡ report_text (take size (drop (from + i * size) lines)))
    → joined texts ≡ report_text (take (length texts * size) (drop from lines))
from_line size lines from [] each = grind (arith, common_steps)
from_line size lines from (text ∷ texts) each =
    let part = take size (drop from lines) in
    let first : text ≡ report_text part = subst (λ (n : ℕ). text ≡ report_text (take size (drop n lines))) (omega arith) (each 0 text refl) in
    let rest = from_line size lines (from + size) texts
    (λ i t at. subst (λ (n : ℕ). t ≡ report_text (take size (drop n lines))) (omega arith) (each (suc i) t at)) in
    let count = length texts * size in
    let one_more : size + count ≡ length (text ∷ texts) * size = omega arith in
    ap (λ t. t ++ joined texts) first ∙ (ap (λ t. report_text part ++ t) rest
    ∙ (ap (λ (l : List Line). report_text part ++ report_text (take count l)) (sym (drop-drop size from lines))
    ∙ (sym (flat_map-append _ part (take count (drop size (drop from lines)))) ∙ (ap report_text (sym (take-add size count (drop from lines)))
    ∙ ap (λ (n : ℕ). report_text (take n (drop from lines))) one_more))))

some_get : (texts : List (List ℕ)) (i : ℕ) (text : List ℕ) → slice_get texts i ≡ Some text → slice_get (map Some texts) i ≡ Some (Some text)
some_get [] i text at = absurd cc
some_get (t ∷ texts) zero text at = ap Some at
some_get (t ∷ texts) (suc i) text at = some_get texts i text at

-- where each part was made, they are the report's text
pub whole_text : (size : ℕ) (lines : List Line) (texts : List (List ℕ)) → AreTexts size lines (map Some texts) → length lines ≤ length texts * size
    → joined texts ≡ report_text lines
whole_text size lines texts each long =
    from_line size lines 0 texts (λ i text at. subst (λ (n : ℕ). text ≡ report_text (take size (drop n lines))) (omega arith) (each i text (some_get texts i text at)))
    ∙ ap report_text (take_all (length texts * size) lines long)

-- what stands for the lines of a trace are lines of a report
pub are_report_lines : (lines : List TraceLine) (report : List Line) → AllZip IsLineFor lines report → AllByRecursion IsReportLine report
are_report_lines [] [] all = tt
are_report_lines [] (r ∷ report) all = absurd all
are_report_lines (l ∷ lines) [] all = absurd all
are_report_lines (l ∷ lines) (r ∷ report) all = (all.0.0, are_report_lines lines report all.1)
