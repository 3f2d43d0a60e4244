-- What the index tells of a key before a write.
use Rattle.std.specs.Prelude.{◌≡◌, ℕ, List, Option, MatchOption}
use Rattle.partition_words.specs.declared.state.OwnerState.{OwnerState}
use Rattle.partition_words.specs.OwnerState.{bucket_in}
use Rattle.chained_index.specs.declared.index.Spot.{Spot}
use Rattle.chained_index.specs.ChainEntries.{IsSpotOf, HasNoSpot}

-- the bucket is the key's, and the spot is the key's there, if it has one
pub record IsSought (o : OwnerState) (key : List ℕ) (b : ℕ) (spot : Option Spot) : Type 0 where
  pub bucket : b ≡ bucket_in o key
  pub found : MatchOption spot (HasNoSpot o b key) (IsSpotOf o b key)
