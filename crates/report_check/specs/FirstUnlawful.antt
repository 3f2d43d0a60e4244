-- The first line of a report that breaks a rule, as three walks over its lines find it.
use Rattle.std.specs.Prelude.{◌≡◌, ℕ, ◌+◌, ◌<◌, ◌⊎◌, List, [], ◌∷◌, take, slice_get, Option, Some, None}
use Rattle.partition_model.specs.declared.options.Options.{Options}
use Rattle.partition_model.specs.Run.{RunStep, IsRunFrom}
use Rattle.mica_trace.specs.declared.line.TraceLine.{TraceLine}
use Rattle.mica_trace.specs.declared.report.Line.{Line}
use Rattle.mica_trace.specs.ReportGrammar.{printed_stamp}
use Rattle.mica_trace.specs.Rounds.{partition_in, write_by, reader_of}
use Rattle.mica_trace.specs.LawfulReport.{IsLineFor, step_by, IsGetAt, IsAnsweredInRound, LawfulReport}
use Rattle.mica_trace.specs.RoundReport.{history_in}
use Rattle.report_check.specs.declared.check.Verdict.{Verdict}
use Rattle.report_check.specs.declared.check.Verdict.TheVariants.{Lawful, Unlawful}

-- no place has the property
abbrev pub IsNowhere : (ℕ → Type 0) → Type 0
IsNowhere P = (n : ℕ) → ¬ (P n)

-- the first place that has it
pub record IsFirst (P : ℕ → Type 0) (n : ℕ) : Type 0 where
  pub holds : P n
  pub before : (m : ℕ) → m < n → ¬ (P m)

-- The first walk: a line of the trace and one of the report, of which one is missing, or of which the second does not stand for the first.

abbrev pub Misfits : Option TraceLine → Option Line → Type 0
Misfits None None = ⊥
Misfits None (Some printed) = Unit {0}
Misfits (Some line) None = Unit {0}
Misfits (Some line) (Some printed) = ¬ (IsLineFor line printed)

abbrev pub IsMisfit : List TraceLine → List Line → ℕ → Type 0
IsMisfit trace report n = Misfits (slice_get trace n) (slice_get report n)

-- The second: what is printed for a write is no step of the machine from the state that the writes of its partition before it leave.
pub record IsWrongWrite (options : Options) (trace : List TraceLine) (report : List Line) (n : ℕ) : Type 0 where
  pub line : TraceLine
  pub printed : Line
  pub asked : slice_get trace n ≡ Some line
  pub answered : slice_get report n ≡ Some printed
  pub step : RunStep
  pub written : step_by (write_by line.op line.key line.value) printed ≡ Some step
  pub wrong : ¬ (IsRunFrom options (history_in options (partition_in options line) (take n trace) (take n report)) (step ∷ []))

-- an earlier get of the same reader and partition has a greater stamp
pub record FallsBehind (options : Options) (trace : List TraceLine) (report : List Line) (n : ℕ) (line : TraceLine) (printed : Line) : Type 0 where
  pub place : ℕ
  pub earlier : place < n
  pub other : TraceLine
  pub answer : Line
  pub get : IsGetAt trace report place other answer
  pub reader : reader_of options trace place ≡ reader_of options trace n
  pub partition : partition_in options other ≡ partition_in options line
  pub greater : printed_stamp printed < printed_stamp answer

-- The third: a get is not answered as at a moment of its round, or its stamp falls.
pub record IsWrongGet (options : Options) (trace : List TraceLine) (report : List Line) (n : ℕ) : Type 0 where
  pub line : TraceLine
  pub printed : Line
  pub get : IsGetAt trace report n line printed
  pub wrong : (¬ (IsAnsweredInRound options trace report n line printed)) ⊎ FallsBehind options trace report n line printed

-- The place, from 0, at which the walks stop. Each begins where the one before it came to the end.
abbrev pub IsFirstUnlawful : Options → List TraceLine → List Line → ℕ → Type 0
IsFirstUnlawful options trace report n =
    IsFirst (IsMisfit trace report) n
    ⊎ (IsNowhere (IsMisfit trace report)
    × (IsFirst (IsWrongWrite options trace report) n
    ⊎ (IsNowhere (IsWrongWrite options trace report) × IsFirst (IsWrongGet options trace report) n)))

-- line n, counted from 1, is the first that breaks a rule
abbrev pub IsUnlawfulAt : Options → List TraceLine → List Line → ℕ → Type 0
IsUnlawfulAt options trace report n = (place : ℕ) × (n ≡ place + 1) × IsFirstUnlawful options trace report place

-- what a verdict says of a report
abbrev pub IsVerdict : Options → List TraceLine → List Line → Verdict → Type 0
IsVerdict options trace report Lawful = LawfulReport options trace report
IsVerdict options trace report (Unlawful n) = IsUnlawfulAt options trace report n
