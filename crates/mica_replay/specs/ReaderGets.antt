-- What a reader's gets come to: of its seats, one for each partition, and of its lines, one for each get.
use Rattle.std.specs.Prelude.{◌≡◌, ℕ, List, length, zip, slice_get, Some}
use Rattle.std.specs.List.{AllZip}
use Rattle.partition_model.specs.declared.options.Options.{Options}
use Rattle.partition_model.specs.History.{IsPrefix}
use Rattle.partition_words.specs.declared.reader.ReaderState.{ReaderState}
use Rattle.partition_words.specs.Shape.{shape_of}
use Rattle.optimistic_get.specs.Asked.{SeatAnswers}
use Rattle.mica_trace.specs.declared.line.TraceLine.{TraceLine}
use Rattle.mica_trace.specs.declared.report.Line.{Line}
use Rattle.mica_trace.specs.RoundReport.{HasKind, line_pairs_in, AnswersRise}

-- The gets of a partition were answered by its seat: at histories that rise from what it had seen to what it has seen.
pub record HasRead (options : Options) (p : ℕ) (gets : List TraceLine) (found : List Line) (old new : ReaderState) : Type 0 where
  pub seat : SeatAnswers old new (length (line_pairs_in options p (zip gets found)))
  pub answers : AnswersRise options old.seen (line_pairs_in options p (zip gets found)) new.seen

-- The gets were answered, each by one line, by the seats of their partitions.
pub record HaveRead (options : Options) (gets : List TraceLine) (found : List Line) (olds news : List ReaderState) : Type 0 where
  pub lines : AllZip HasKind gets found
  pub seats : length news ≡ length olds
  pub each : (p : ℕ) (old new : ReaderState) → slice_get olds p ≡ Some old → slice_get news p ≡ Some new
      → HasRead options p gets found old new

-- a seat of each partition, of the options' shape
pub record AreSeatsOf (options : Options) (seats : List ReaderState) : Type 0 where
  pub many : length seats ≡ options.partitions
  pub shapes : (p : ℕ) (seat : ReaderState) → slice_get seats p ≡ Some seat → seat.shape ≡ shape_of options

-- each seat has seen at least what it had
pub record HaveSeenMore (olds news : List ReaderState) : Type 0 where
  pub seats : length news ≡ length olds
  pub each : (p : ℕ) (old new : ReaderState) → slice_get olds p ≡ Some old → slice_get news p ≡ Some new
      → (new.shape ≡ old.shape) × IsPrefix old.seen new.seen
