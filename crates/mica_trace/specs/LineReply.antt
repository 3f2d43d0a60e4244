-- What a partition answers to one line of a trace, at the line's place.
use Rattle.std.specs.Prelude.{◌≡◌, ℕ, Bool, not, ◌&&◌, List, [], ◌∷◌, ◌++◌, filter}
use Rattle.std.specs.List.{cons_option}
use Rattle.partition_model.specs.declared.options.Options.{Options}
use Rattle.partition_model.specs.History.{History}
use Rattle.partition_model.specs.Run.{RunStep, IsRunFrom, history_of}
use Rattle.mica_trace.specs.declared.line.TraceOp.TheVariants.{Get}
use Rattle.mica_trace.specs.declared.line.TraceLine.{TraceLine}
use Rattle.mica_trace.specs.declared.report.Line.{Line}
use Rattle.mica_trace.specs.TraceGrammar.{is_sync}
use Rattle.mica_trace.specs.Rounds.{write_by, is_in_partition}
use Rattle.mica_trace.specs.LawfulReport.{IsKindOf, step_by, Answers}

-- the step of a line that is a write, by what is printed for it; no other line has one
abbrev pub steps_at : TraceLine → Line → List RunStep
steps_at line printed = cons_option (step_by (write_by line.op line.key line.value) printed) []

-- the history after the line
abbrev pub history_with : History → TraceLine → Line → History
history_with history line printed = history ++ history_of (steps_at line printed)

-- What is printed is the machine's reply to the line after this history: a write has an outcome that the machine may give and the stamp
-- after it, a get the machine's answer and its stamp.
pub record IsReplyAfter (options : Options) (history : History) (line : TraceLine) (printed : Line) : Type 0 where
  pub kind : IsKindOf line.op printed
  pub write : IsRunFrom options history (steps_at line printed)
  pub get : line.op ≡ Get → Answers options history line.key printed

-- Each line of one partition is replied to after those before it: from the history before the first to that after the last.
abbrev pub RepliesTo : Options → History → List TraceLine → List Line → History → Type 0
RepliesTo options from [] [] to = to ≡ from
RepliesTo options from (line ∷ lines) (printed ∷ more) to =
    IsReplyAfter options from line printed × RepliesTo options (history_with from line printed) lines more to
RepliesTo options from _ _ to = ⊥

-- the lines that a partition answers: all of its keys
abbrev pub is_for : Options → ℕ → TraceLine → Bool
is_for options partition line = not (is_sync line) && is_in_partition options partition line

-- the lines of a partition
abbrev pub lines_for : Options → ℕ → List TraceLine → List TraceLine
lines_for options partition lines = filter (is_for options partition) lines
