-- The item that an entry spells stands at its offset.
use Rattle.std.proofs.Common.{ℕ, List}
use Rattle.mica_words.specs.Entry.{entry_offset}
use Rattle.partition_model.specs.Store.{Cell}
use Rattle.partition_words.specs.declared.state.OwnerState.{OwnerState}
use Rattle.partition_words.specs.Kept.{Kept}
use Rattle.partition_words.specs.OwnerState.{options_in}
use Rattle.partition_words.specs.StandsFor.{Spells}
use Rattle.partition_words.proofs.Machine.{has_fits}
use Rattle.circular_log.specs.LogItem.{IsItem}

pub spelt_item : (o : OwnerState) → Kept o → (c x : ℕ) (key : List ℕ) (cell : Cell) → Spells o c x key cell → IsItem o (entry_offset x) key cell
spelt_item o s c x key cell sp =
    let fits = has_fits (options_in o) o.history s.history.writes key cell (entry_offset x) sp.has in
    record { key_fits = fits.0; value_fits = fits.2; value_bytes = fits.3; room_fits = fits.5; spelt = sp.item }
