-- What no event of an owner takes away: the law by which what is kept of each reader outlives each event.
use Rattle.std.specs.Prelude.{◌≡◌, ℕ, ◌%◌, ◌≤◌, slice_index}
use Rattle.partition_model.specs.History.{IsPrefix}
use Rattle.partition_words.specs.declared.state.OwnerState.{OwnerState}
use Rattle.partition_words.specs.Shape.{IsMain}
use Rattle.partition_words.specs.OwnerState.{epoch_in}
use Rattle.partition_words.specs.Reach.{IsInReach}

-- The history goes on, epochs rise, and where an even one stood still, the words in its bucket's reach were
-- there before, each as it is now.
pub record Grows (old new : OwnerState) : Type 0 where
  pub shape : new.shape ≡ old.shape
  pub history : IsPrefix old.history new.history
  pub rises : (b : ℕ) → IsMain old.shape b → epoch_in old b ≤ epoch_in new b
  pub still : (b : ℕ) → IsMain old.shape b → epoch_in old b % 2 ≡ 0 → epoch_in new b ≡ epoch_in old b
      → (place : ℕ) → IsInReach new b place
      → IsInReach old b place × (slice_index new.words place ≡ slice_index old.words place)
