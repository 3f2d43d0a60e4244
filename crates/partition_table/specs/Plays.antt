-- What each kind of step tells: of the seat before, the number found or stored, and the seat after.
-- A look ahead (`ReaderSeat::peek`) is no such step: it is a load outside every try, of which no view keeps anything and no play tells. So nothing rests on what it finds.
use Rattle.std.specs.Prelude.{◌≡◌, ℕ, ◌+◌, ◌*◌, ◌≤◌, ◌⊎◌, slice_index}
use Rattle.atomic_table.specs.Table.{Step}
use Rattle.partition_model.specs.History.{History, IsPrefix, stamp_of, writes_to_bucket}
use Rattle.partition_words.specs.declared.event.Event.{Event}
use Rattle.partition_words.specs.declared.reader.ReaderState.{ReaderState}
use Rattle.partition_words.specs.Shape.{options_of, IsSpare, IsBucket}
use Rattle.partition_words.specs.Layout.{epoch_at, link_at}
use Rattle.partition_words.specs.Events.{after}
use Rattle.partition_words.specs.Kept.{Kept}
use Rattle.partition_words.specs.ReaderState.{opened, loaded, stamped, shut}
use Rattle.partition_words.specs.ReaderKept.{MetKept, Tells}
use Rattle.partition_table.specs.declared.rule.View.TheVariants.{Owns, Reads}
use Rattle.partition_table.specs.Rule.{Seated, owner_in, reader_in}

abbrev pub tells_word : Step (Unit {0}) → Seated → ℕ → Seated → Type 0
tells_word step me n now =
    (now ≡ me) × (n ≡ slice_index (owner_in me.0).words step.word) × Kept (owner_in me.0)

abbrev pub happened : Event → Step (Unit {0}) → Seated → ℕ → Seated → Type 0
happened e step me n now =
    (now ≡ (Owns (after e (owner_in me.0)), me.1)) × Kept (after e (owner_in me.0))

abbrev pub Becomes : Seated → ReaderState → Seated → Type 0
Becomes me r now = now ≡ (Reads r, me.1)

abbrev pub opens : Step (Unit {0}) → Seated → ℕ → Seated → Type 0
opens step me n now = let r : ReaderState = reader_in me.0 in (b : ℕ) → step.word ≡ epoch_at b
    → Becomes me (opened b n r) now × (2 * writes_to_bucket (options_of r.shape) r.done b ≤ n)

abbrev pub looks : Step (Unit {0}) → Seated → ℕ → Seated → Type 0
looks step me n now = Becomes me (loaded step.word n (reader_in me.0)) now

abbrev pub follows : Step (Unit {0}) → Seated → ℕ → Seated → Type 0
follows step me n now = let r : ReaderState = reader_in me.0 in Becomes me (loaded step.word n r) now
    × ((c : ℕ) → IsBucket r.shape c → step.word ≡ link_at r.shape c → (n ≡ 0) ⊎ IsSpare r.shape n)

abbrev pub stamps : Step (Unit {0}) → Seated → ℕ → Seated → Type 0
stamps step me n now = let r : ReaderState = reader_in me.0 in (history : History)
    × Becomes me (stamped history r) now × IsPrefix r.seen history
    × (n ≡ stamp_of (options_of r.shape) history) × MetKept r

-- An epoch is loaded outside every try: of the writes that were seen no more are to the bucket than it tells.
abbrev pub tallies : Step (Unit {0}) → Seated → ℕ → Seated → Type 0
tallies step me n now = let r : ReaderState = reader_in me.0 in (now ≡ me)
    × ((b : ℕ) → step.word ≡ epoch_at b → 2 * writes_to_bucket (options_of r.shape) r.seen b ≤ n + 1)

abbrev pub shuts : Step (Unit {0}) → Seated → ℕ → Seated → Type 0
shuts step me n now = Becomes me (shut n (reader_in me.0)) now × Tells n (reader_in me.0)
