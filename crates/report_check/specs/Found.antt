-- What is found of several partitions.
use Rattle.std.specs.Prelude.{◌≡◌, ℕ, ◌<◌, List, slice_get, Option, Some, None}
use Rattle.partition_model.specs.declared.options.Options.{Options}
use Rattle.partition_model.specs.Run.{IsRun}
use Rattle.mica_trace.specs.declared.line.TraceLine.{TraceLine}
use Rattle.mica_trace.specs.declared.report.Line.{Line}
use Rattle.mica_trace.specs.Rounds.{partition_in}
use Rattle.mica_trace.specs.LawfulReport.{IsGetAt, IsAnsweredInRound, steps_of}
use Rattle.report_check.specs.declared.check.Found.{Found}
use Rattle.report_check.specs.declared.partition.Judged.{Judged}
use Rattle.report_check.specs.declared.partition.Judged.TheVariants.{Wrong, Run}
use Rattle.report_check.specs.Earlier.{earlier}
use Rattle.report_check.specs.FirstUnlawful.{IsWrongWrite, FallsBehind, IsWrongGet}

abbrev pub with_judged : Found → Judged → Found
with_judged found (Wrong place) = record { write = earlier found.write place; get = found.get }
with_judged found (Run (Some place)) = record { write = found.write; get = earlier found.get place }
with_judged found (Run None) = found

abbrev pub with_fall : Found → Option ℕ → Found
with_fall found (Some place) = record { write = found.write; get = earlier found.get place }
with_fall found None = found

-- the first wrong write of the partitions below a number; where there is none, their writes are runs
abbrev pub IsWriteOf : Options → ℕ → List TraceLine → List Line → Option ℕ → Type 0
IsWriteOf options many trace report None = (p : ℕ) → p < many → IsRun options (steps_of options p trace report)
IsWriteOf options many trace report (Some found) =
    IsWrongWrite options trace report found
    × ((n : ℕ) (line : TraceLine) → n < found → slice_get trace n ≡ Some line → partition_in options line < many → ¬ (IsWrongWrite options trace report n))

-- a get that breaks no rule
abbrev pub IsRight : Options → List TraceLine → List Line → ℕ → TraceLine → Line → Type 0
IsRight options trace report n line printed =
    IsAnsweredInRound options trace report n line printed × (¬ (FallsBehind options trace report n line printed))

-- their first wrong get
abbrev pub IsGetOf : Options → ℕ → List TraceLine → List Line → Option ℕ → Type 0
IsGetOf options many trace report None =
    (n : ℕ) (line : TraceLine) (printed : Line) → IsGetAt trace report n line printed → partition_in options line < many → IsRight options trace report n line printed
IsGetOf options many trace report (Some found) =
    IsWrongGet options trace report found
    × ((n : ℕ) (line : TraceLine) (printed : Line) → n < found → IsGetAt trace report n line printed → partition_in options line < many → IsRight options trace report n line printed)

-- The first wrong write, and where there is none the first wrong get.
pub record AreFound (options : Options) (many : ℕ) (trace : List TraceLine) (report : List Line) (found : Found) : Type 0 where
  pub write : IsWriteOf options many trace report found.write
  pub get : found.write ≡ None → IsGetOf options many trace report found.get
