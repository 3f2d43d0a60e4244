-- Which slot gives way, as far as the slots were looked at.
use Rattle.std.proofs.Common.{◌≡◌, ℕ, ◌<◌, ◌≤◌, Option, Some, None}
use Rattle.partition_words.specs.declared.state.OwnerState.{OwnerState}
use Rattle.lossy_index.specs.Slot.{offset_in, IsPassed}
use Rattle.lossy_index.specs.Place.{IsFirst}

-- the first of these slots that the log has passed, if it has passed one
abbrev pub IsFirstPassed : OwnerState → ℕ → ℕ → Option ℕ → Type 0
IsFirstPassed o b n None = (slot : ℕ) → slot < n → ¬ (IsPassed o b slot)
IsFirstPassed o b n (Some slot) = IsFirst (IsPassed o b) slot

-- one of these slots has the least offset
pub record HasLeast (o : OwnerState) (b n slot least : ℕ) : Type 0 where
  pub one : slot < n
  pub offset : least ≡ offset_in o b slot
  pub most : (other : ℕ) → other < n → least ≤ offset_in o b other
