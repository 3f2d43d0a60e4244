-- The entries of a chain, as a list.
use Rattle.std.specs.Prelude.{◌≡◌, ◌≢◌, ℕ, zero, suc, ◌+◌, ◌*◌, ◌<◌, ◌==◌, nat_lt, List, [], ◌∷◌, if◌then◌else◌, filter, flat_map, slice_range, slice_set, swap_remove}
use Rattle.std.specs.List.{position_or_len}
use Rattle.mica_words.specs.declared.entry.TheConstants.{SLOTS}
use Rattle.mica_words.specs.Hash.{tag_of}
use Rattle.mica_words.specs.Entry.{entry_tag, entry_offset}
use Rattle.partition_words.specs.declared.state.OwnerState.{OwnerState}
use Rattle.partition_words.specs.Layout.{entry_at}
use Rattle.partition_words.specs.OwnerState.{entry_in, link_in}
use Rattle.partition_words.specs.Chain.{InChain}
use Rattle.partition_words.specs.ItemAt.{HasKey}
use Rattle.chained_index.specs.declared.index.Spot.{Spot}

-- the first n buckets from b on, each of which the link before it names
unfoldable pub buckets_from : OwnerState → ℕ → ℕ → List ℕ
buckets_from o zero b = []
buckets_from o (suc n) b = b ∷ (if link_in o b == 0 then [] else buckets_from o n (link_in o b))

-- the buckets of a chain, its main bucket first
unfoldable pub buckets_of : OwnerState → ℕ → List ℕ
buckets_of o b = buckets_from o (suc o.shape.spares) b

-- the entries of one bucket, in the order of its slots
unfoldable pub entries_in : OwnerState → ℕ → List ℕ
entries_in o c =
    filter (nat_lt 0) (slice_range o.words (entry_at o.shape c 0) (entry_at o.shape c SLOTS))

-- the entries of a chain, bucket by bucket
unfoldable pub entries_of : OwnerState → ℕ → List ℕ
entries_of o b = flat_map (entries_in o) (buckets_of o b)

-- the entry in a spot
abbrev pub spot_entry : OwnerState → Spot → ℕ
spot_entry o spot = entry_in o spot.bucket spot.slot

-- the spot is a used slot in the chain of bucket b
pub record IsUsed (o : OwnerState) (b : ℕ) (spot : Spot) : Type 0 where
  pub in_chain : InChain o b spot.bucket
  pub in_bucket : spot.slot < SLOTS
  pub used : spot_entry o spot ≢ 0

-- where the entry of a used spot stands in the list of a dense chain, all of whose buckets but the last
-- are full
unfoldable pub place_in_chain : OwnerState → ℕ → Spot → ℕ
place_in_chain o b spot = SLOTS * position_or_len (λ c. c == spot.bucket) (buckets_of o b) + spot.slot

-- the entries with another one in the spot
abbrev pub entries_with : OwnerState → ℕ → Spot → ℕ → List ℕ
entries_with o b spot entry = slice_set (entries_of o b) (place_in_chain o b spot) entry

-- the entries without the one in the spot, whose place the last one takes
abbrev pub entries_without : OwnerState → ℕ → Spot → List ℕ
entries_without o b spot = swap_remove (entries_of o b) (place_in_chain o b spot) 0

-- The spot has an entry of the key's tag, whose item has the key.
pub record IsSpotOf (o : OwnerState) (b : ℕ) (key : List ℕ) (spot : Spot) : Type 0 where
  pub used : IsUsed o b spot
  pub tag : entry_tag (spot_entry o spot) ≡ tag_of o.shape.hashing key
  pub item : HasKey o (entry_offset (spot_entry o spot)) key

-- no spot is the key's
abbrev pub HasNoSpot : OwnerState → ℕ → List ℕ → Type 0
HasNoSpot o b key = (spot : Spot) → ¬ (IsSpotOf o b key spot)
