-- The slots of a bucket, by the entries, the items and the stamp as they are now.
use Rattle.std.specs.Prelude.{◌≡◌, ℕ, ◌+◌, ◌<◌, ◌≤◌, List}
use Rattle.mica_words.specs.declared.entry.TheConstants.{SLOTS}
use Rattle.mica_words.specs.Hash.{tag_of}
use Rattle.mica_words.specs.Entry.{entry_tag, entry_offset}
use Rattle.mica_words.specs.Stamp.{tail_of}
use Rattle.partition_words.specs.declared.state.OwnerState.{OwnerState}
use Rattle.lossy_index.specs.declared.finding.Found.{Found}
use Rattle.partition_words.specs.OwnerState.{stamp_in, entry_in}
use Rattle.partition_words.specs.ItemAt.{HasKey}

-- where the item of the slot's entry begins
abbrev pub offset_in : OwnerState → ℕ → ℕ → ℕ
offset_in o b slot = entry_offset (entry_in o b slot)

-- the slot has no entry
abbrev pub IsEmpty : OwnerState → ℕ → ℕ → Type 0
IsEmpty o b slot = entry_in o b slot ≡ 0

-- the log has passed the item of the slot's entry
abbrev pub IsPassed : OwnerState → ℕ → ℕ → Type 0
IsPassed o b slot = offset_in o b slot + o.shape.words < tail_of (stamp_in o)

-- The slot has an entry of the key's tag, whose item has the key and which the log has not passed.
pub record IsSlotOf (o : OwnerState) (b : ℕ) (key : List ℕ) (slot : ℕ) : Type 0 where
  pub in_bucket : slot < SLOTS
  pub tag : entry_tag (entry_in o b slot) ≡ tag_of o.shape.hashing key
  pub live : tail_of (stamp_in o) ≤ offset_in o b slot + o.shape.words
  pub item : HasKey o (offset_in o b slot) key

-- It is the key's slot, with the offset in its entry.
pub record IsFoundAt (o : OwnerState) (b : ℕ) (key : List ℕ) (found : Found) : Type 0 where
  pub slot : IsSlotOf o b key found.slot
  pub offset : found.offset ≡ offset_in o b found.slot

-- no slot is the key's
abbrev pub HasNoSlot : OwnerState → ℕ → List ℕ → Type 0
HasNoSlot o b key = (slot : ℕ) → ¬ (IsSlotOf o b key slot)
