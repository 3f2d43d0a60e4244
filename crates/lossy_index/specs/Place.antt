-- The slot that an entry is placed in.
use Rattle.std.specs.Prelude.{◌≡◌, ℕ, ◌<◌, ◌≤◌, Option, Some, None}
use Rattle.mica_words.specs.declared.entry.TheConstants.{SLOTS}
use Rattle.partition_words.specs.declared.state.OwnerState.{OwnerState}
use Rattle.lossy_index.specs.Slot.{offset_in, IsEmpty, IsPassed}

-- the first slot of a bucket of which it holds
pub record IsFirst (P : ℕ → Type 0) (slot : ℕ) : Type 0 where
  pub in_bucket : slot < SLOTS
  pub holds : P slot
  pub first : (earlier : ℕ) → earlier < slot → ¬ (P earlier)

-- it holds of no slot of a bucket
abbrev pub HoldsOfNone : (ℕ → Type 0) → Type 0
HoldsOfNone P = (slot : ℕ) → slot < SLOTS → ¬ (P slot)

-- a slot whose number is least in a bucket
pub record IsLeast (number : ℕ → ℕ) (slot : ℕ) : Type 0 where
  pub in_bucket : slot < SLOTS
  pub least : (other : ℕ) → other < SLOTS → number slot ≤ number other

-- The slot that gives way to a new key's entry: the first empty one, else the first whose item the log
-- has passed, else the one of least offset, whose item is the oldest.
pub data GivesWay (o : OwnerState) (b slot : ℕ) : Type 0 where
  empty : IsFirst (IsEmpty o b) slot → GivesWay o b slot
  passed : HoldsOfNone (IsEmpty o b) → IsFirst (IsPassed o b) slot → GivesWay o b slot
  oldest : HoldsOfNone (IsEmpty o b) → HoldsOfNone (IsPassed o b) → IsLeast (offset_in o b) slot
      → GivesWay o b slot

-- the slot that an entry takes: the given one, else the one that gives way
abbrev pub TakesSlot : OwnerState → ℕ → Option ℕ → ℕ → Type 0
TakesSlot o b (Some old) slot = slot ≡ old
TakesSlot o b None slot = GivesWay o b slot
