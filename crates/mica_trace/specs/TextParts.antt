-- A report's text in parts, each of so many lines, and the last one of those that are left.
use Rattle.std.specs.Prelude.{◌≡◌, ℕ, ◌*◌, Option, Some, List, take, drop, slice_get}
use Rattle.std.specs.List.{flat_map}
use Rattle.mica_trace.specs.declared.report.Line.{Line}
use Rattle.mica_trace.specs.ReportGrammar.{report_text}

-- the lines of the part of this number
abbrev pub part_of : ℕ → List Line → ℕ → List Line
part_of size lines part = take size (drop (part * size) lines)

-- texts, one after another
abbrev pub joined : List (List ℕ) → List ℕ
joined texts = flat_map (λ text. text) texts

-- what was made is the text of its part
abbrev pub AreTexts : ℕ → List Line → List (Option (List ℕ)) → Type 0
AreTexts size lines texts =
    (part : ℕ) (text : List ℕ) → slice_get texts part ≡ Some (Some text) → text ≡ report_text (part_of size lines part)
