-- The lines of a trace, shared out to their partitions.
use Rattle.std.specs.Prelude.{◌≡◌, ◌≢◌, ℕ, ◌+◌, ◌<◌, ◌≤◌, List, [], ◌∷◌, length, take, slice_get, Some}
use Rattle.std.specs.Global.{Vec}
use Rattle.partition_model.specs.declared.options.Options.{Options}
use Rattle.mica_trace.specs.declared.line.TraceLine.{TraceLine}
use Rattle.mica_trace.specs.Rounds.{partition_in}
use Rattle.mica_trace.specs.RoundReport.{gets_in}
use Rattle.report_check.specs.declared.sharing.OwnLine.{OwnLine}

-- none of the lines between two places is the partition's
abbrev pub HasNone : Options → ℕ → List TraceLine → ℕ → ℕ → Type 0
HasNone options p trace from to = (n : ℕ) (line : TraceLine) → from ≤ n → n < to → slice_get trace n ≡ Some line → partition_in options line ≢ p

-- a line of the partition, and how many gets stand before it
pub record IsOwn (options : Options) (p : ℕ) (trace : List TraceLine) (own : OwnLine) : Type 0 where
  pub line : TraceLine
  pub is : slice_get trace own.place ≡ Some line
  pub inside : partition_in options line ≡ p
  pub gets : own.gets ≡ gets_in (take own.place trace)

-- these are all lines of the partition between two places, in order
abbrev pub AreLinesOf : Options → ℕ → List TraceLine → ℕ → ℕ → List OwnLine → Type 0
AreLinesOf options p trace from to [] = (from ≤ to) × HasNone options p trace from to
AreLinesOf options p trace from to (own ∷ later) =
    IsOwn options p trace own × (from ≤ own.place) × (own.place < to) × HasNone options p trace from own.place × AreLinesOf options p trace (own.place + 1) to later

-- the lines of each partition
pub record AreShared (options : Options) (trace : List TraceLine) (shared : List (Vec OwnLine)) : Type 0 where
  pub many : length shared ≡ options.partitions
  pub each : (p : ℕ) (own : Vec OwnLine) → slice_get shared p ≡ Some own → AreLinesOf options p trace 0 (length trace) own.items
