-- The chain of a bucket: a main bucket, and the spare buckets behind it. In cache mode there are none.
use Rattle.std.specs.Prelude.{◌≡◌, ◌≢◌, ℕ, zero, suc, ◌<◌, ◌⊎◌}
use Rattle.mica_words.specs.declared.entry.TheConstants.{SLOTS}
use Rattle.partition_words.specs.declared.state.OwnerState.{OwnerState}
use Rattle.partition_words.specs.Shape.{IsMain, IsSpare, IsBucket}
use Rattle.partition_words.specs.OwnerState.{entry_in, link_in}

-- c is one of the first n buckets from b on, each of which the link before it names
abbrev pub IsAmong : OwnerState → ℕ → ℕ → ℕ → Type 0
IsAmong o zero b c = ⊥
IsAmong o (suc n) b c = (b ≡ c) ⊎ ((link_in o b ≢ 0) × IsAmong o n (link_in o b) c)

-- one of the first n buckets from b on has no link
abbrev pub EndsWithin : OwnerState → ℕ → ℕ → Type 0
EndsWithin o zero b = ⊥
EndsWithin o (suc n) b = (link_in o b ≡ 0) ⊎ EndsWithin o n (link_in o b)

-- c is in the chain of the main bucket b, which has no more buckets than all spares and itself
abbrev pub InChain : OwnerState → ℕ → ℕ → Type 0
InChain o b c = IsAmong o (suc o.shape.spares) b c

abbrev pub ChainEnds : OwnerState → ℕ → Type 0
ChainEnds o b = EndsWithin o (suc o.shape.spares) b

-- each link is 0 or names a spare bucket, each chain ends, and no spare bucket is in two
pub record HasChains (o : OwnerState) : Type 0 where
  pub links : (c : ℕ) → IsBucket o.shape c → (link_in o c ≡ 0) ⊎ IsSpare o.shape (link_in o c)
  pub end : (b : ℕ) → IsMain o.shape b → ChainEnds o b
  pub apart : (b b' c : ℕ) → IsMain o.shape b → IsMain o.shape b' → b ≢ b'
      → InChain o b c → ¬ (InChain o b' c)

-- a spare bucket in no chain
pub record IsFreeSpare (o : OwnerState) (c : ℕ) : Type 0 where
  pub spare : IsSpare o.shape c
  pub free : (b : ℕ) → IsMain o.shape b → ¬ (InChain o b c)

-- Every bucket of the chain but the last is full, the slots of the last are used from 0 on, and no
-- spare bucket of it is empty.
pub record IsDense (o : OwnerState) (b : ℕ) : Type 0 where
  pub full : (c slot : ℕ) → InChain o b c → link_in o c ≢ 0 → slot < SLOTS → entry_in o c slot ≢ 0
  pub in_order : (c slot later : ℕ) → InChain o b c → slot < later → later < SLOTS
      → entry_in o c later ≢ 0 → entry_in o c slot ≢ 0
  pub some : (c : ℕ) → InChain o b c → c ≢ b → entry_in o c 0 ≢ 0
