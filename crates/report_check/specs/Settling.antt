-- The gets of a round, in the order of their stamps, and how far the machine has settled them.
use Rattle.std.specs.Prelude.{◌≡◌, ℕ, ◌<◌, ◌≤◌, ◌⊎◌, List, length, slice_get, Option, Some, IfSome, IsSomeAnd}
use Rattle.partition_model.specs.declared.options.Options.{Options}
use Rattle.partition_model.specs.History.{State, stamp_in, stamp_of}
use Rattle.mica_trace.specs.declared.line.TraceLine.{TraceLine}
use Rattle.mica_trace.specs.declared.report.Line.{Line}
use Rattle.mica_trace.specs.ReportGrammar.{printed_stamp}
use Rattle.mica_trace.specs.Rounds.{partition_in}
use Rattle.mica_trace.specs.LawfulReport.{IsGetAt}
use Rattle.report_check.specs.declared.asked.Asked.{Asked}
use Rattle.report_check.specs.declared.settling.Settling.{Settling}
use Rattle.report_check.specs.declared.sharing.OwnLine.{OwnLine}
use Rattle.report_check.specs.Machines.{AnswersIn}
use Rattle.report_check.specs.Moments.{history_at, IsAnsweredBetween}

-- a get of the partition between two places, with the stamp that is printed for it
pub record IsAsked (options : Options) (p : ℕ) (trace : List TraceLine) (report : List Line) (from to : ℕ) (asked : Asked) : Type 0 where
  pub line : TraceLine
  pub printed : Line
  pub get : IsGetAt trace report asked.place line printed
  pub inside : partition_in options line ≡ p
  pub low : from ≤ asked.place
  pub high : asked.place < to
  pub stamp : asked.stamp ≡ printed_stamp printed

-- the gets among these lines, in some order
pub record AreGetsAmong (trace : List TraceLine) (report : List Line) (lines : List OwnLine) (asked : List Asked) : Type 0 where
  pub each : (j : ℕ) (a : Asked) → slice_get asked j ≡ Some a → (i : ℕ) × (own : OwnLine) × (slice_get lines i ≡ Some own) × (a.place ≡ own.place)
      × (line : TraceLine) × (printed : Line) × IsGetAt trace report a.place line printed × (a.stamp ≡ printed_stamp printed)
  pub all : (i : ℕ) (own : OwnLine) (line : TraceLine) (printed : Line) → slice_get lines i ≡ Some own → IsGetAt trace report own.place line printed
      → (j : ℕ) × (slice_get asked j ≡ Some (record { stamp = printed_stamp printed; place = own.place }))

-- all of them
pub record AreAsked (options : Options) (p : ℕ) (trace : List TraceLine) (report : List Line) (from to : ℕ) (asked : List Asked) : Type 0 where
  pub each : (j : ℕ) (a : Asked) → slice_get asked j ≡ Some a → IsAsked options p trace report from to a
  pub all : (n : ℕ) (line : TraceLine) (printed : Line) → from ≤ n → n < to → IsGetAt trace report n line printed → partition_in options line ≡ p
      → (j : ℕ) × (slice_get asked j ≡ Some (record { stamp = printed_stamp printed; place = n }))

-- each stands at a get of the trace, with its stamp
abbrev pub AreGets : List TraceLine → List Line → List Asked → Type 0
AreGets trace report asked = (j : ℕ) (a : Asked) → slice_get asked j ≡ Some a
    → (line : TraceLine) × (printed : Line) × IsGetAt trace report a.place line printed × (a.stamp ≡ printed_stamp printed)

-- their stamps rise
abbrev pub StampsRise : List Asked → Type 0
StampsRise asked = (i j : ℕ) (a b : Asked) → i ≤ j → slice_get asked i ≡ Some a → slice_get asked j ≡ Some b → a.stamp ≤ b.stamp

-- what is printed for the get at a place is what the state answers
pub record AnswersNow (state : State) (trace : List TraceLine) (report : List Line) (place : ℕ) : Type 0 where
  pub line : TraceLine
  pub printed : Line
  pub get : IsGetAt trace report place line printed
  pub answers : AnswersIn state line.key printed

-- a get at this place or before it was missed
abbrev pub IsMissedBy : Option ℕ → ℕ → Type 0
IsMissedBy missed place = IsSomeAnd missed (λ n. n ≤ place)

-- Some more gets were judged by one state, up to its stamp.
pub record HasJudged (state : State) (trace : List TraceLine) (report : List Line) (asked : List Asked) (old new : Settling) : Type 0 where
  pub low : old.next ≤ new.next
  pub high : new.next ≤ length asked
  pub passed : (j : ℕ) (a : Asked) → old.next ≤ j → j < new.next → slice_get asked j ≡ Some a → a.stamp ≤ stamp_in state
  pub judged : (j : ℕ) (a : Asked) → old.next ≤ j → j < new.next → slice_get asked j ≡ Some a
      → AnswersNow state trace report a.place ⊎ IsMissedBy new.missed a.place
  pub kept : (n : ℕ) → IsMissedBy old.missed n → IsMissedBy new.missed n
  pub missed : IfSome new.missed (λ n. (old.missed ≡ Some n)
      ⊎ ((j : ℕ) × (a : Asked) × (old.next ≤ j) × (j < new.next) × (slice_get asked j ≡ Some a) × (n ≡ a.place) × (¬ (AnswersNow state trace report a.place))))

-- those after them have greater stamps
abbrev pub IsAhead : ℕ → List Asked → ℕ → Type 0
IsAhead stamp asked next = (j : ℕ) (a : Asked) → next ≤ j → slice_get asked j ≡ Some a → stamp < a.stamp

-- All gets up to the stamp of a moment are settled, by the moments from the round's beginning to this one.
pub record IsSettled (options : Options) (p : ℕ) (trace : List TraceLine) (report : List Line) (from now : ℕ) (asked : List Asked) (settling : Settling) : Type 0 where
  pub high : settling.next ≤ length asked
  pub passed : (j : ℕ) (a : Asked) → j < settling.next → slice_get asked j ≡ Some a → a.stamp ≤ stamp_of options (history_at options p trace report now)
  pub ahead : IsAhead (stamp_of options (history_at options p trace report now)) asked settling.next
  pub judged : (j : ℕ) (a : Asked) → j < settling.next → slice_get asked j ≡ Some a
      → IsAnsweredBetween options p trace report from now a.place ⊎ IsMissedBy settling.missed a.place
  pub missed : IfSome settling.missed (λ n. (j : ℕ) × (a : Asked) × (j < settling.next) × (slice_get asked j ≡ Some a) × (n ≡ a.place)
      × (¬ (IsAnsweredBetween options p trace report from now a.place)))
