-- The words that a get of a main bucket needs, as the words are now.
use Rattle.std.specs.Prelude.{◌≡◌, ℕ, ◌+◌, ◌<◌}
use Rattle.mica_words.specs.declared.entry.TheConstants.{SLOTS}
use Rattle.mica_words.specs.Entry.{entry_offset}
use Rattle.partition_words.specs.declared.state.OwnerState.{OwnerState}
use Rattle.partition_words.specs.Layout.{entry_at, link_at, item_at}
use Rattle.partition_words.specs.Chain.{InChain}
use Rattle.partition_words.specs.LiveEntry.{HasLiveEntry}
use Rattle.partition_words.specs.StandsFor.{room_in}

-- The entries and links of its chain, and the words of the rooms of the items that its live entries name.
pub data IsInReach (o : OwnerState) (b place : ℕ) : Type 0 where
  by_entry : (c slot : ℕ) → InChain o b c → slot < SLOTS → place ≡ entry_at o.shape c slot
      → IsInReach o b place
  by_link : (c : ℕ) → InChain o b c → place ≡ link_at o.shape c → IsInReach o b place
  by_item : (c slot entry i : ℕ) → HasLiveEntry o b c slot entry → i < room_in o entry
      → place ≡ item_at o.shape (entry_offset entry + i) → IsInReach o b place
