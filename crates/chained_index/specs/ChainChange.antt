-- What a call on an index makes of the words.
use Rattle.std.specs.Prelude.{◌≡◌, ◌≢◌, ℕ, List}
use Rattle.partition_words.specs.declared.state.OwnerState.{OwnerState}
use Rattle.partition_words.specs.Shape.{IsMain}
use Rattle.partition_words.specs.OwnerState.{stamp_in, epoch_in, item_in}
use Rattle.chained_index.specs.ChainEntries.{buckets_of, entries_of}

-- no word but entries and links has changed
pub record ChangesOnlyIndex (old new : OwnerState) : Type 0 where
  pub stamp : stamp_in new ≡ stamp_in old
  pub epochs : (b : ℕ) → IsMain old.shape b → epoch_in new b ≡ epoch_in old b
  pub items : (p : ℕ) → item_in new p ≡ item_in old p
  pub same : new ≡ record old { words = new.words }

-- the chain has the same buckets and the same entries
pub record KeepsChain (old new : OwnerState) (b : ℕ) : Type 0 where
  pub buckets : buckets_of new b ≡ buckets_of old b
  pub entries : entries_of new b ≡ entries_of old b

-- The chain of bucket b has these entries now. Each other chain is as it was, and so are all words but
-- entries and links.
pub record ChangesChain (old new : OwnerState) (b : ℕ) (xs : List ℕ) : Type 0 where
  pub entries : entries_of new b ≡ xs
  pub others : (other : ℕ) → IsMain old.shape other → other ≢ b → KeepsChain old new other
  pub rest : ChangesOnlyIndex old new
