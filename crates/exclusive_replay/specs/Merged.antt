-- What the owners printed, one list for each partition.
use Rattle.std.specs.Prelude.{◌≡◌, ◌⊎◌, ℕ, true, false, List, ◌∷◌, length, slice_get, slice_set, Some}
use Rattle.partition_model.specs.declared.options.Options.{Options}
use Rattle.partition_model.specs.History.{History}
use Rattle.mica_trace.specs.declared.line.TraceLine.{TraceLine}
use Rattle.mica_trace.specs.declared.report.Line.{Line}
use Rattle.mica_trace.specs.declared.report.Line.TheVariants.{Sync}
use Rattle.mica_trace.specs.TraceGrammar.{is_sync}
use Rattle.mica_trace.specs.Rounds.{partition_in}
use Rattle.mica_trace.specs.LineReply.{RepliesTo, lines_for}

-- each partition's lines were replied to in order, from these histories
pub record AreReplied (options : Options) (from : ℕ → History) (lines : List TraceLine) (printed : List (List Line)) : Type 0 where
  pub many : length printed ≡ options.partitions
  pub each : (p : ℕ) (own : List Line) → slice_get printed p ≡ Some own → (to : History) × RepliesTo options (from p) (lines_for options p lines) own to

-- what is printed for a line: a sync, or the next line of its partition, which is then taken
abbrev pub TakesNext : Options → TraceLine → List (List Line) → List (List Line) → Line → Type 0
TakesNext options line olds news printed =
    ((is_sync line ≡ true) × (printed ≡ Sync) × (news ≡ olds))
    ⊎ ((is_sync line ≡ false)
    × ((rest : List Line) × (slice_get olds (partition_in options line) ≡ Some (printed ∷ rest)) × (news ≡ slice_set olds (partition_in options line) rest)))
