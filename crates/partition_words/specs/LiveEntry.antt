-- The live entries of a bucket: those that are not 0 and whose item the log has not passed.
use Rattle.std.specs.Prelude.{◌≡◌, ◌≢◌, ℕ, ◌+◌, ◌<◌, ◌≤◌}
use Rattle.mica_words.specs.declared.entry.TheConstants.{SLOTS}
use Rattle.mica_words.specs.Entry.{entry_offset}
use Rattle.mica_words.specs.Stamp.{tail_of}
use Rattle.partition_model.specs.declared.options.Mode.{Mode}
use Rattle.partition_model.specs.declared.options.Mode.TheVariants.{Cache, Store}
use Rattle.partition_words.specs.declared.shape.Shape.{Shape}
use Rattle.partition_words.specs.declared.state.OwnerState.{OwnerState}
use Rattle.partition_words.specs.OwnerState.{stamp_in, entry_in}
use Rattle.partition_words.specs.Chain.{InChain}

-- In cache mode an item is live while the log, of this many words, has not passed it by this stamp.
-- In store mode it always is.
abbrev pub IsLiveItem : Mode → ℕ → ℕ → ℕ → Type 0
IsLiveItem Cache words stamp p = tail_of stamp ≤ p + words
IsLiveItem Store words stamp p = Unit {0}

abbrev pub IsLive : Shape → ℕ → ℕ → Type 0
IsLive shape stamp entry =
    (entry ≢ 0) × IsLiveItem shape.mode shape.words stamp (entry_offset entry)

-- the slot of bucket c, in the chain of bucket b, has this entry, live by the stamp word now
pub record HasLiveEntry (o : OwnerState) (b c slot entry : ℕ) : Type 0 where
  pub in_chain : InChain o b c
  pub in_bucket : slot < SLOTS
  pub found : entry_in o c slot ≡ entry
  pub live : IsLive o.shape (stamp_in o) entry
