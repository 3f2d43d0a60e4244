-- What is printed for a round, taken from what its workers have.
use Rattle.std.specs.Prelude.{◌≡◌, ℕ, List, ◌++◌, length, zip, slice_get, Some}
use Rattle.std.specs.List.{AllZip}
use Rattle.partition_model.specs.declared.options.Options.{Options}
use Rattle.mica_trace.specs.declared.line.TraceLine.{TraceLine}
use Rattle.mica_trace.specs.declared.report.Line.{Line}
use Rattle.mica_trace.specs.Rounds.{writes_of}
use Rattle.mica_trace.specs.RoundReport.{gets_of}
use Rattle.mica_trace.specs.RoundReport.{HasKind, pairs_of}
use Rattle.mica_trace.specs.LawfulReport.{steps_of}
use Rattle.mica_replay.specs.Replies.{Reply, steps_with}

-- What is printed for a round has each owner's replies at its writes, and each reader's lines at its gets.
pub record IsMergedRound (options : Options) (g : ℕ) (round : List TraceLine) (printed : List Line) (done : List (List Reply)) (found : List (List Line)) : Type 0 where
  pub lines : AllZip HasKind round printed
  pub writes : (p : ℕ) (replies : List Reply) → slice_get done p ≡ Some replies → steps_of options p round printed ≡ steps_with (writes_of options p round) replies
  pub gets : (q : ℕ) (lines : List Line) → slice_get found q ≡ Some lines → pairs_of options q g (zip round printed) ≡ zip (gets_of options q g round) lines

-- there are as many replies as the round has writes, and a line of its kind for each get
pub record AreEnough (options : Options) (g : ℕ) (round : List TraceLine) (done : List (List Reply)) (found : List (List Line)) : Type 0 where
  pub owners : length done ≡ options.partitions
  pub readers : length found ≡ options.readers
  pub writes : (p : ℕ) (replies : List Reply) → slice_get done p ≡ Some replies → length replies ≡ length (writes_of options p round)
  pub gets : (q : ℕ) (lines : List Line) → slice_get found q ≡ Some lines → AllZip HasKind (gets_of options q g round) lines

-- what was printed for the round stands behind what was printed before
pub record HasMerged (options : Options) (g : ℕ) (round : List TraceLine) (old new : List Line) (done : List (List Reply)) (found : List (List Line)) : Type 0 where
  pub printed : List Line
  pub report : new ≡ old ++ printed
  pub merged : IsMergedRound options g round printed done found
