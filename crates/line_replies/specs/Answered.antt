-- How far a trace is answered, by one partition or by all.
use Rattle.std.specs.Prelude.{◌≡◌, ℕ, List, length, slice_get, Some}
use Rattle.partition_model.specs.declared.options.Options.{Options}
use Rattle.mica_trace.specs.declared.line.TraceLine.{TraceLine}
use Rattle.mica_trace.specs.declared.report.Line.{Line}
use Rattle.mica_trace.specs.RoundReport.{history_in}
use Rattle.mica_trace.specs.ExactReport.{ExactReport}
use Rattle.partition_words.specs.declared.state.OwnerState.{OwnerState}
use Rattle.partition_words.specs.Shape.{shape_of}

-- the owner of partition p has the history of what is printed
pub record IsOwnerAfter (options : Options) (lines : List TraceLine) (report : List Line) (p : ℕ) (owner : OwnerState) : Type 0 where
  pub shape : owner.shape ≡ shape_of options
  pub history : owner.history ≡ history_in options p lines report

-- What is printed for these lines is an exact report of them, and each partition's owner is where it leaves off.
pub record AreAnswered (options : Options) (lines : List TraceLine) (report : List Line) (owners : List OwnerState) : Type 0 where
  pub exact : ExactReport options lines report
  pub many : length owners ≡ options.partitions
  pub each : (p : ℕ) (owner : OwnerState) → slice_get owners p ≡ Some owner → IsOwnerAfter options lines report p owner
