-- One round of a trace: whose its gets are, and what a report has for its lines.
use Rattle.std.specs.Prelude.{◌≡◌, ℕ, ◌+◌, ◌<◌, ◌%◌, ◌==◌, Bool, true, false, List, [], ◌∷◌, ◌++◌, count_by, filter, zip, if◌then◌else◌}
use Rattle.std.specs.List.{AllZip}
use Rattle.partition_model.specs.declared.options.Options.{Options}
use Rattle.partition_model.specs.History.{History, IsPrefix}
use Rattle.partition_model.specs.Run.{IsRunFrom, history_of}
use Rattle.mica_trace.specs.declared.line.TraceLine.{TraceLine}
use Rattle.mica_trace.specs.declared.report.Line.{Line}
use Rattle.mica_trace.specs.TraceGrammar.{is_sync}
use Rattle.mica_trace.specs.Rounds.{is_get_op, is_in_partition}
use Rattle.mica_trace.specs.LawfulReport.{IsKindOf, IsLineFor, steps_of, Answers}

-- Rounds

-- no lines, or the last one ends a round
abbrev pub EndsRound : List TraceLine → Type 0
EndsRound [] = Unit {0}
EndsRound (line ∷ []) = is_sync line ≡ true
EndsRound (line ∷ next ∷ lines) = EndsRound (next ∷ lines)

-- no line but the last one ends a round
abbrev pub IsOneRound : List TraceLine → Type 0
IsOneRound [] = Unit {0}
IsOneRound (line ∷ []) = Unit {0}
IsOneRound (line ∷ next ∷ lines) = (is_sync line ≡ false) × IsOneRound (next ∷ lines)

-- Gets

-- whether a line is a get
abbrev pub is_get : TraceLine → Bool
is_get line = is_get_op line.op

-- how many gets there are
abbrev pub gets_in : List TraceLine → ℕ
gets_in lines = count_by is_get lines

-- a line of a trace, and the line of its report
abbrev pub LinePair : Type 0
LinePair = TraceLine × Line

-- the report line is of the kind that the trace line has
abbrev pub HasKind : TraceLine → Line → Type 0
HasKind line printed = IsKindOf line.op printed

-- The gets go to the readers in turn. These are the elements at a reader's gets, where each element has a line of the trace and
-- g gets stand before the first.
abbrev pub gets_by : {X : Type 0} → (X → TraceLine) → Options → ℕ → ℕ → List X → List X
gets_by line options reader g [] = []
gets_by line options reader g (x ∷ xs) =
    if is_get (line x)
    then (if g % options.readers == reader then x ∷ gets_by line options reader (g + 1) xs else gets_by line options reader (g + 1) xs)
    else gets_by line options reader g xs

-- a reader's gets
abbrev pub gets_of : Options → ℕ → ℕ → List TraceLine → List TraceLine
gets_of options reader g lines = gets_by (λ line. line) options reader g lines

-- a reader's gets with their answers
abbrev pub pairs_of : Options → ℕ → ℕ → List LinePair → List LinePair
pairs_of options reader g pairs = gets_by (λ pair. pair.0) options reader g pairs

-- those whose key is in the partition
abbrev pub line_pairs_in : Options → ℕ → List LinePair → List LinePair
line_pairs_in options partition pairs = filter (λ pair. is_in_partition options partition pair.0) pairs

-- Each answer is the machine's after some history. The first of these begins with `seen`, each later one with the one before it, and
-- `last` with the last of them.
abbrev pub AnswersRise : Options → History → List LinePair → History → Type 0
AnswersRise options seen [] last = IsPrefix seen last
AnswersRise options seen (pair ∷ pairs) last =
    (cut : History) × IsPrefix seen cut × Answers options cut pair.0.key pair.1 × AnswersRise options cut pairs last

-- The report

-- the history that the writes of a partition leave, by the replies in the report
abbrev pub history_in : Options → ℕ → List TraceLine → List Line → History
history_in options partition lines report = history_of (steps_of options partition lines report)

-- What a report has for a round, behind what it has for the lines before.
pub record IsRoundReport (options : Options) (before : List TraceLine) (report : List Line) (round : List TraceLine) (printed : List Line) : Type 0 where
  pub lines : AllZip IsLineFor round printed
  -- the writes of a partition are a run that goes on from the history before the round
  pub writes : (p : ℕ) → p < options.partitions
      → IsRunFrom options (history_in options p before report) (steps_of options p round printed)
  -- a reader's answers in a partition rise from the history before the round, and not past that at its end
  pub gets : (q p : ℕ) → q < options.readers → p < options.partitions → (last : History)
      × IsPrefix last (history_in options p before report ++ history_in options p round printed)
      × AnswersRise options (history_in options p before report)
      (line_pairs_in options p (pairs_of options q (gets_in before) (zip round printed))) last
