-- Where the items of a partition lie.
use Rattle.std.specs.Prelude.{◌≡◌, ◌<◌, ◌⊎◌, ℕ, List, Contains}
use Rattle.std.specs.List.Sorted.{IsStrictlyIncreasing}
use Rattle.mica_words.specs.declared.entry.TheConstants.{SLOTS}
use Rattle.mica_words.specs.Entry.{entry_offset}
use Rattle.partition_words.specs.declared.state.OwnerState.{OwnerState}
use Rattle.partition_words.specs.Shape.{IsMain}
use Rattle.partition_words.specs.OwnerState.{stamp_in, entry_in}
use Rattle.partition_words.specs.Chain.{IsAmong, InChain}
use Rattle.partition_words.specs.LiveEntry.{IsLive, HasLiveEntry}

-- one of the first n slots of a bucket has a live entry, whose item lies at the offset
abbrev pub HasItemBelow : OwnerState → ℕ → ℕ → ℕ → Type 0
HasItemBelow o n c p = (slot : ℕ) × (slot < n) × IsLive o.shape (stamp_in o) (entry_in o c slot) × (entry_offset (entry_in o c slot) ≡ p)

abbrev pub HasItem : OwnerState → ℕ → ℕ → Type 0
HasItem o c p = HasItemBelow o SLOTS c p

-- one of the first n buckets from x on has it
abbrev pub HasItemFrom : OwnerState → ℕ → ℕ → ℕ → Type 0
HasItemFrom o n x p = (c : ℕ) × IsAmong o n x c × HasItem o c p

-- a bucket of the chain of the main bucket b has it
abbrev pub HasItemInChain : OwnerState → ℕ → ℕ → Type 0
HasItemInChain o b p = (c : ℕ) × InChain o b c × HasItem o c p

-- A live entry of the partition names an item at the offset.
abbrev pub IsItemAt : OwnerState → ℕ → Type 0
IsItemAt o p = (b : ℕ) × (c : ℕ) × (slot : ℕ) × (entry : ℕ) × IsMain o.shape b × HasLiveEntry o b c slot entry × (entry_offset entry ≡ p)

-- the numbers that P says were added, and no other
pub record Adds (P : ℕ → Type 0) (old new : List ℕ) : Type 0 where
  pub kept : (p : ℕ) → Contains old p → Contains new p
  pub added : (p : ℕ) → P p → Contains new p
  pub no_other : (p : ℕ) → Contains new p → Contains old p ⊎ P p

-- These are the offsets of all items, each once, the lowest first.
pub record AreListed (o : OwnerState) (offsets : List ℕ) : Type 0 where
  pub each : (p : ℕ) → IsItemAt o p → Contains offsets p
  pub nothing_else : (p : ℕ) → Contains offsets p → IsItemAt o p
  pub rise : IsStrictlyIncreasing offsets
