-- What is found of one partition.
use Rattle.std.specs.Prelude.{◌≡◌, ℕ, ◌<◌, ◌≤◌, ◌⊎◌, List, [], ◌++◌, length, take, slice_get, Option, Some, None, IfSome}
use Rattle.std.specs.List.{cons_option}
use Rattle.partition_model.specs.declared.options.Options.{Options}
use Rattle.partition_model.specs.History.{History}
use Rattle.partition_model.specs.Run.{RunStep, IsRun, IsRunFrom, history_of}
use Rattle.mica_trace.specs.declared.line.TraceLine.{TraceLine}
use Rattle.mica_trace.specs.declared.report.Line.{Line}
use Rattle.mica_trace.specs.Rounds.{partition_in, write_by}
use Rattle.mica_trace.specs.LawfulReport.{IsGetAt, IsAnsweredInRound, step_by, steps_of}
use Rattle.report_check.specs.declared.asked.Asked.{Asked}
use Rattle.report_check.specs.declared.machine.Machine.{Machine}
use Rattle.report_check.specs.declared.settling.Settling.{Settling}
use Rattle.report_check.specs.declared.partition.Judged.{Judged}
use Rattle.report_check.specs.declared.sharing.OwnLine.{OwnLine}
use Rattle.report_check.specs.declared.partition.Judged.TheVariants.{Wrong, Run}
use Rattle.report_check.specs.FirstUnlawful.{IsWrongWrite, FallsBehind}
use Rattle.report_check.specs.Machines.{IsAfter}
use Rattle.report_check.specs.Moments.{history_at, IsAnsweredBetween}
use Rattle.report_check.specs.Settling.{IsMissedBy}
use Rattle.report_check.specs.Shared.{AreLinesOf}

-- the step that is printed for a line, if it is a write's
abbrev pub step_at : TraceLine → Line → List RunStep
step_at line printed = cons_option (step_by (write_by line.op line.key line.value) printed) []

-- the machine may take it from the history, and took it
pub record TakesStep (options : Options) (history : History) (line : TraceLine) (printed : Line) (machine : Machine) : Type 0 where
  pub run : IsRunFrom options history (step_at line printed)
  pub after : IsAfter options (history ++ history_of (step_at line printed)) machine

-- the earliest of what was missed and of the gets that are left
pub record LeavesMissed (asked : List Asked) (settling : Settling) (missed : Option ℕ) : Type 0 where
  pub kept : (n : ℕ) → IsMissedBy settling.missed n → IsMissedBy missed n
  pub left : (j : ℕ) (a : Asked) → settling.next ≤ j → slice_get asked j ≡ Some a → IsMissedBy missed a.place
  pub from : IfSome missed (λ n. (settling.missed ≡ Some n)
      ⊎ ((j : ℕ) × (a : Asked) × (settling.next ≤ j) × (slice_get asked j ≡ Some a) × (n ≡ a.place)))

-- the writes of the partition before the place are a run, and at the place is a wrong one
pub record IsFirstWrong (options : Options) (p : ℕ) (trace : List TraceLine) (report : List Line) (found : ℕ) : Type 0 where
  pub run : IsRun options (steps_of options p (take found trace) (take found report))
  pub wrong : IsWrongWrite options trace report found

-- Of the gets of the partition at the places between two, the first without the property; each has it where there is none.
abbrev pub IsFirstWithout : (ℕ → TraceLine → Line → Type 0) → Options → ℕ → List TraceLine → List Line → ℕ → ℕ → Option ℕ → Type 0
IsFirstWithout P options p trace report from to None =
    (n : ℕ) (line : TraceLine) (printed : Line) → from ≤ n → n < to → IsGetAt trace report n line printed → partition_in options line ≡ p → P n line printed
IsFirstWithout P options p trace report from to (Some found) =
    (from ≤ found) × (found < to)
    × ((line : TraceLine) × (printed : Line) × IsGetAt trace report found line printed × (partition_in options line ≡ p) × (¬ (P found line printed)))
    × ((n : ℕ) (line : TraceLine) (printed : Line) → from ≤ n → n < found → IsGetAt trace report n line printed → partition_in options line ≡ p → P n line printed)

-- The machine stands before a round of the partition, whose lines there these are.
pub record IsBeforeRound (options : Options) (p : ℕ) (trace : List TraceLine) (report : List Line) (from to : ℕ) (lines : List OwnLine) (machine : Machine) : Type 0 where
  pub own : AreLinesOf options p trace from to lines
  pub high : to ≤ length trace
  pub run : IsRun options (steps_of options p (take from trace) (take from report))
  pub after : IsAfter options (history_at options p trace report from) machine

-- what was found in one round of it, behind which the machine stands
abbrev pub IsJudgedRound : Options → ℕ → List TraceLine → List Line → ℕ → ℕ → Machine → Judged → Type 0
IsJudgedRound options p trace report from to machine (Wrong found) = IsFirstWrong options p trace report found
IsJudgedRound options p trace report from to machine (Run missed) =
    IsRun options (steps_of options p (take to trace) (take to report))
    × IsAfter options (history_at options p trace report to) machine
    × IsFirstWithout (λ n line printed. IsAnsweredBetween options p trace report from to n) options p trace report from to missed

-- the first of its gets that is not answered in its round, of those before a place
abbrev pub IsFirstMissed : Options → ℕ → List TraceLine → List Line → ℕ → Option ℕ → Type 0
IsFirstMissed options p trace report to missed = IsFirstWithout (IsAnsweredInRound options trace report) options p trace report 0 to missed

-- the first of its gets that falls behind
abbrev pub IsFirstFall : Options → ℕ → List TraceLine → List Line → Option ℕ → Type 0
IsFirstFall options p trace report None =
    (n : ℕ) (line : TraceLine) (printed : Line) → IsGetAt trace report n line printed → partition_in options line ≡ p → ¬ (FallsBehind options trace report n line printed)
IsFirstFall options p trace report (Some found) =
    ((line : TraceLine) × (printed : Line) × IsGetAt trace report found line printed × FallsBehind options trace report found line printed)
    × ((n : ℕ) (line : TraceLine) (printed : Line) → n < found → IsGetAt trace report n line printed → partition_in options line ≡ p → ¬ (FallsBehind options trace report n line printed))

-- its first wrong write, or, where its writes are a run, its first get that is not answered in its round
abbrev pub IsJudged : Options → ℕ → List TraceLine → List Line → Judged → Type 0
IsJudged options p trace report (Wrong found) = IsFirstWrong options p trace report found
IsJudged options p trace report (Run missed) = IsRun options (steps_of options p trace report) × IsFirstMissed options p trace report (length trace) missed
