-- Which of the items that a partition has are kept.
use Rattle.std.specs.Prelude.{◌≡◌, ⊤, ℕ, Bool, ◌&&◌, List, [], ◌∷◌, length, filter, nat_le, bytes_eq, Option, Some, None, if◌then◌else◌}
use Rattle.partition_model.specs.declared.options.Options.{Options}
use Rattle.partition_model.specs.Cache.{Record}
use Rattle.partition_model.specs.History.{History, State, cache_state, store_state}
use Rattle.memcached_text.specs.Item.{item_in}
use Rattle.memcached_commands.specs.declared.moment.Moment.{Moment}
use Rattle.memcached_commands.specs.Moments.{is_there}
use Rattle.fronts.specs.Looks.{when_after}
use Rattle.memcached_decisions.specs.Numbered.{moment_at}
use Rattle.saved_items.specs.declared.items.TheConstants.{MAX_SAVED_KEY_LEN}
use Rattle.saved_items.specs.Items.{Pair}

-- a second, behind a history
abbrev pub behind : Options → ℕ → ℕ → History → Moment
behind options base second history = moment_at base (when_after options second history)

-- what is stored under a key, among these pairs
abbrev pub stored_under : List ℕ → List Pair → Option (List ℕ)
stored_under key [] = None
stored_under key (pair ∷ pairs) = if bytes_eq pair.key key then Some pair.value else stored_under key pairs

-- no key has two of them
abbrev pub AreOnce : List Pair → Type 0
AreOnce [] = ⊤
AreOnce (pair ∷ pairs) = (stored_under pair.key pairs ≡ None) × AreOnce pairs

-- Whether what is stored is an item that is there: its time has not come, and no flush took it.
abbrev pub is_kept : Moment → List ℕ → Bool
is_kept at stored = is_there at (item_in stored)

-- Whether it is saved: it is there, and a file may have its key. The keys of memcached's clients are no longer.
abbrev pub is_saved : Moment → List ℕ → List ℕ → Bool
is_saved at key stored = nat_le (length key) MAX_SAVED_KEY_LEN && is_kept at stored

-- the pairs that are saved
abbrev pub kept_at : Moment → List Pair → List Pair
kept_at at pairs = filter (λ pair. is_saved at pair.key pair.value) pairs

-- What is kept of what is stored under a key, as it is: its flags, its end, its number with its marks, and its value.
abbrev pub kept_of : Moment → List ℕ → Option (List ℕ) → Option (List ℕ)
kept_of at key None = None
kept_of at key (Some stored) = if is_saved at key stored then Some stored else None

-- these pairs are these records of a log, in their order
abbrev pub AreRecords : List Pair → List Record → Type 0
AreRecords [] [] = ⊤
AreRecords [] (held ∷ records) = ⊥
AreRecords (pair ∷ pairs) [] = ⊥
AreRecords (pair ∷ pairs) (held ∷ records) = (pair.key ≡ held.key) × (pair.value ≡ held.value) × AreRecords pairs records

-- those of a cache stand in the order of its log, the oldest first
abbrev pub AreInOrder : State → List Pair → Type 0
AreInOrder (cache_state cache) pairs = AreRecords pairs cache.records
AreInOrder (store_state store) pairs = ⊤

-- and so do those that are kept
abbrev pub AreKeptInOrder : Moment → State → List Pair → Type 0
AreKeptInOrder at (cache_state cache) pairs = AreRecords pairs (filter (λ held. is_saved at held.key held.value) cache.records)
AreKeptInOrder at (store_state store) pairs = ⊤
