-- What every event keeps of an owner's state.
use Rattle.std.specs.Prelude.{◌≡◌, ℕ, ◌+◌, ◌*◌, ◌<◌, ◌≤◌, [], ◌∷◌, ◌++◌, length}
use Rattle.std.specs.List.{AllByRecursion}
use Rattle.partition_model.specs.Write.{IsWrite}
use Rattle.partition_model.specs.History.{History, IsHistory, IsPrefix, stamp_of}
use Rattle.partition_words.specs.declared.shape.Shape.{Shape}
use Rattle.partition_words.specs.declared.state.OwnerState.{OwnerState}
use Rattle.partition_words.specs.declared.state.Phase.{Phase}
use Rattle.partition_words.specs.declared.state.Phase.TheVariants.{Idle, Begun, Marked}
use Rattle.partition_words.specs.Shape.{options_of, IsPossibleShape, IsMain}
use Rattle.partition_words.specs.Layout.{word_count}
use Rattle.partition_words.specs.OwnerState.{stamp_in, epoch_in, options_in, bucket_in, writes_in, begun_in, marked_in}
use Rattle.partition_words.specs.Chain.{HasChains}
use Rattle.partition_words.specs.StandsFor.{StandsFor}
use Rattle.partition_words.specs.Failures.{FailsFit}

-- a history of accepted writes whose keys and values fit, no more than the partition may bear
pub record IsLawfulHistory (shape : Shape) (history : History) : Type 0 where
  pub accepted : IsHistory (options_of shape) history
  pub writes : AllByRecursion IsWrite history
  pub not_above_wear : length history ≤ shape.wear

-- the bucket of a write that is begun, and a marked write is the history's last
abbrev pub PhaseFits : OwnerState → Phase → Type 0
PhaseFits o Idle = Unit {0}
PhaseFits o (Begun b) = IsMain o.shape b × (length o.history < o.shape.wear)
PhaseFits o (Marked b write before) = (b ≡ bucket_in o write.key) × (o.history ≡ before ++ write ∷ [])

-- The owner's words are those of its machine.
pub record Kept (o : OwnerState) : Type 0 where
  pub shape : IsPossibleShape o.shape
  pub wide : length o.words ≡ word_count o.shape
  pub chains : HasChains o
  pub history : IsLawfulHistory o.shape o.history
  pub stamp : stamp_in o ≡ stamp_of (options_in o) o.history
  -- twice the writes to the bucket, one more while a write is begun there, one less while one is marked
  pub epochs : (b : ℕ) → IsMain o.shape b
      → epoch_in o b + marked_in o.phase b ≡ 2 * writes_in o b + begun_in o.phase b
  pub state : (b : ℕ) → IsMain o.shape b → marked_in o.phase b ≡ 0 → StandsFor o b
  pub phase : PhaseFits o o.phase
  -- what a seat that was met had seen begins the history
  pub met_seen : IsPrefix o.met.seen o.history
  -- and its failures are of epochs that have come
  pub met_fails : FailsFit o o.met.fails
