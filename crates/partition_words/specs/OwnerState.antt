-- An owner's state: its words by their meaning, its machine's state, and its phase.
use Rattle.std.specs.Prelude.{ℕ, ◌==◌, List, [], if◌then◌else◌, slice_index, replicate}
use Rattle.mica_words.specs.Hash.{bucket_of}
use Rattle.partition_model.specs.declared.options.Options.{Options}
use Rattle.partition_model.specs.History.{State, state_of, writes_to_bucket}
use Rattle.partition_words.specs.declared.shape.Shape.{Shape}
use Rattle.partition_words.specs.declared.shape.WordAt.{WordAt}
use Rattle.partition_words.specs.declared.state.OwnerState.{OwnerState}
use Rattle.partition_words.specs.declared.state.Phase.{Phase}
use Rattle.partition_words.specs.declared.state.Phase.TheVariants.{Idle, Begun, Marked}
use Rattle.partition_words.specs.Shape.{options_of}
use Rattle.partition_words.specs.Layout.{stamp_at, epoch_at, entry_at, link_at, item_at, place_at, word_count}

-- The words

abbrev pub word_at : OwnerState → WordAt → ℕ
word_at o at = slice_index o.words (place_at o.shape at)

-- the stamp that the words have
abbrev pub stamp_in : OwnerState → ℕ
stamp_in o = slice_index o.words stamp_at

-- a bucket's epoch in the words
abbrev pub epoch_in : OwnerState → ℕ → ℕ
epoch_in o b = slice_index o.words (epoch_at b)

-- 0 for an empty slot
abbrev pub entry_in : OwnerState → ℕ → ℕ → ℕ
entry_in o b slot = slice_index o.words (entry_at o.shape b slot)

-- 0 for none, else the spare bucket behind this one
abbrev pub link_in : OwnerState → ℕ → ℕ
link_in o b = slice_index o.words (link_at o.shape b)

-- the item word of an offset
abbrev pub item_in : OwnerState → ℕ → ℕ
item_in o p = slice_index o.words (item_at o.shape p)

-- The machine

-- the options of the owner's shape
abbrev pub options_in : OwnerState → Options
options_in o = options_of o.shape

-- what the machine has behind the owner's history
abbrev pub state_in : OwnerState → State
state_in o = state_of (options_in o) o.history

-- the bucket of a key
abbrev pub bucket_in : OwnerState → List ℕ → ℕ
bucket_in o key = bucket_of o.shape.hashing key o.shape.buckets

-- how many of the writes are to keys of the bucket
abbrev pub writes_in : OwnerState → ℕ → ℕ
writes_in o b = writes_to_bucket (options_in o) o.history b

-- The phase

-- 1 at the bucket whose write is begun and not marked
abbrev pub begun_in : Phase → ℕ → ℕ
begun_in (Begun c) b = if c == b then 1 else 0
begun_in _ b = 0

-- 1 at the bucket whose write is marked and not ended
abbrev pub marked_in : Phase → ℕ → ℕ
marked_in (Marked c write before) b = if c == b then 1 else 0
marked_in _ b = 0

-- As made, before any event: all words are 0, and no seat was met.
abbrev pub as_made : Shape → OwnerState
as_made shape =
    record {
      shape = shape;
      words = replicate (word_count shape) 0;
      history = [];
      phase = Idle;
      met = record { seen = []; fails = [] };
      closed = 0;
    }
