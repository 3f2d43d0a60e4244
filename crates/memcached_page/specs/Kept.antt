-- How long a cache keeps an item, and where something finds no room: by numbers of words.
use Rattle.std.specs.Prelude.{◌≡◌, ◌≢◌, ◌⊎◌, ◌≤◌, ◌<◌, ◌+◌, ◌-◌, ◌*◌, ◌/◌, ◌==◌, ◌&&◌, ◌||◌, not, ◌∷◌, ◌++◌, ℕ, Bool, true, false, ⊤, List, [], length, sum_by, count_by, nat_le, bytes_eq, is_some, AllPairs, Option, option_map, unwrap_or, if◌then◌else◌}
use Rattle.std.specs.List.{AllByRecursion, list_any}
use Rattle.mica_words.specs.declared.entry.TheConstants.{SLOTS}
use Rattle.mica_words.specs.Item.{item_size}
use Rattle.partition_model.specs.declared.options.Mode.TheVariants.{Cache, Store}
use Rattle.partition_model.specs.declared.options.Options.{Options}
use Rattle.partition_model.specs.Limits.{last_tail}
use Rattle.partition_model.specs.Rooms.{keeps}
use Rattle.memcached_text.specs.declared.item.Item.{Item}
use Rattle.memcached_text.specs.Item.{item_text}
use Rattle.memcached_commands.specs.Decide.{Becoming, stays, becomes, goes}
use Rattle.memcached_page.specs.Shelf.{Shelf}
use Rattle.memcached_page.specs.Course.{Deed, carried, flushed, went, lost, moved, Done, becoming, is_no_room, after}

-- What is written

-- how many words an item takes under its key
abbrev pub words_of : List ℕ → Item → ℕ
words_of key item = item_size key (item_text item)

-- what becomes of one; none, where nothing is stored
abbrev pub words_in : List ℕ → Becoming → ℕ
words_in key (becomes item) = words_of key item
words_in key _ = 0

-- an item of so many words under a key, or 0 words where none is stored; and 1 for what changes something at all, else 0
pub record Written : Type 0 where
  pub key : List ℕ
  pub words : ℕ
  pub count : ℕ

abbrev pub no_item : List ℕ → Bool → Written
no_item key changes = record { key = key; words = 0; count = if changes then 1 else 0 }

-- what a command writes of what becomes of its item, which was there or was not
abbrev pub written_by : List ℕ → Option Item → Becoming → Written
written_by key found stays = no_item key false
written_by key found (becomes item) = record { key = key; words = words_of key item; count = 1 }
written_by key found goes = no_item key (is_some found)

-- What a deed writes. A get writes nothing, nor does what was refused, and what a cache loses it loses by a deed before.
abbrev pub written : Shelf → Deed → Written
written shelf (carried second number asked says) =
    if is_no_room says then no_item asked.key false else written_by asked.key (shelf.items asked.key) (becoming second number asked shelf)
written shelf (flushed part number flush took) = no_item [] took
written shelf (went second key) = no_item key true
written shelf (lost key) = no_item key false
written shelf (moved key) = record { key = key; words = unwrap_or (option_map (words_of key) (shelf.items key)) 0; count = 1 }

-- what is left behind deeds
abbrev pub shelf_in : Shelf → List Done → Shelf
shelf_in shelf [] = shelf
shelf_in shelf (done ∷ later) = shelf_in (after done.deed shelf) later

-- how many of them wrote something
abbrev pub writes_in : Shelf → List Done → ℕ
writes_in shelf [] = 0
writes_in shelf (done ∷ later) = (written shelf done.deed).count + writes_in (after done.deed shelf) later

-- this holds of each deed, by those before it
abbrev pub AtEach : (List Done → Deed → Type 0) → List Done → List Done → Type 0
AtEach P earlier [] = ⊤
AtEach P earlier (done ∷ later) = P earlier done.deed × AtEach P (earlier ++ done ∷ []) later

-- A cache

-- Where an item lies in its part's log: its room in words; how much the log had before it, of which 65,536 are a word; and the keys of its class that were laid behind it.
pub record Place : Type 0 where
  pub room : ℕ
  pub before : ℕ
  pub newer : List (List ℕ)

-- how much was written to the log of a part, and where each key's item lies
pub record Laid : Type 0 where
  pub written : ℕ
  pub place : List ℕ → Place

abbrev pub nowhere : Place
nowhere = record { room = 0; before = 0; newer = [] }

abbrev pub nothing : Laid
nothing = record { written = 0; place = λ key. nowhere }

-- a log of so many words was not written round behind it
abbrev pub is_kept : ℕ → ℕ → Place → Bool
is_kept words written place = nat_le (written / 65536) (place.before / 65536 + words)

-- a new value of so many words lies where its key's old one lies: it keeps that room, which is not written round meanwhile
abbrev pub lies_there : ℕ → Written → Laid → Bool
lies_there words one laid = keeps one.words (laid.place one.key).room && is_kept words (laid.written + 1) (laid.place one.key)

abbrev pub is_move : Deed → Bool
is_move (moved key) = true
is_move _ = false

abbrev pub with_key : List ℕ → List (List ℕ) → List (List ℕ)
with_key key keys = if list_any (bytes_eq key) keys then keys else key ∷ keys

-- an item is laid at the end of the log, behind those of all other keys
abbrev pub laid_last : (List ℕ → ℕ) → Written → Laid → Laid
laid_last class one laid = record {
  written = laid.written + 65536 * one.words;
  place = λ key. if bytes_eq key one.key then record { room = one.words; before = laid.written; newer = [] }
      else record (laid.place key) { newer = if class key == class one.key then with_key one.key (laid.place key).newer else (laid.place key).newer };
}

-- What a deed makes of it. Its item is laid last, unless it lies where its key's old one does. Anything else that is written counts 1. A key that has no item lies nowhere.
abbrev pub laid_then : ℕ → (List ℕ → ℕ) → Shelf → Deed → Laid → Laid
laid_then words class shelf deed laid =
    let one : Written = written shelf deed in
    let next : Laid = if one.words == 0 || not (is_move deed) && lies_there words one laid then record laid { written = laid.written + one.count } else laid_last class one laid in
    record next { place = λ key. if is_some ((after deed shelf).items key) then next.place key else nowhere }

abbrev pub laid_in : ℕ → (List ℕ → ℕ) → Shelf → Laid → List Done → Laid
laid_in words class shelf laid [] = laid
laid_in words class shelf laid (done ∷ later) = laid_in words class (after done.deed shelf) (laid_then words class shelf done.deed laid) later

-- An item that a cache loses, whose log has so many words: the log was written round behind it, or as many other keys of its class have items behind it as have room beside
-- each other.
abbrev pub LostForCause : ℕ → (List ℕ → ℕ) → Shelf → List Done → Deed → Type 0
LostForCause words class from earlier (lost key) =
    let laid : Laid = laid_in words class from nothing earlier in
    (is_kept words laid.written (laid.place key) ≡ false)
    ⊎ (SLOTS ≤ count_by (λ other. is_some ((shelf_in from earlier).items other)) (laid.place key).newer)
LostForCause words class from earlier _ = ⊤

abbrev pub KeepsItems : Options → (List ℕ → ℕ) → Shelf → List Done → Type 0
KeepsItems options class from course = AtEach (LostForCause options.words class from) [] course

-- No room

-- The room of a key in a store: that of its old value, where a new one keeps it, else the new one's words. A key that has no item has none.
abbrev pub room_then : List ℕ → Written → ℕ → ℕ
room_then key one room = if one.words == 0 || not (bytes_eq one.key key) || keeps one.words room then room else one.words

abbrev pub room_in : List ℕ → Shelf → ℕ → List Done → ℕ
room_in key shelf room [] = room
room_in key shelf room (done ∷ later) =
    let next : Shelf = after done.deed shelf in room_in key next (if is_some (next.items key) then room_then key (written shelf done.deed) room else 0) later

-- Where a store has no room for so many words more: by keys that have items then, each named once. Some layout of their rooms leaves no block of these words; or the keys are
-- as many as all spare buckets are for, and one bucket more.
pub record IsFull (options : Options) (from : Shelf) (earlier : List Done) (words : ℕ) : Type 0 where
  pub keys : List (List ℕ)
  pub items : AllByRecursion (λ key. is_some ((shelf_in from earlier).items key) ≡ true) keys
  pub once : AllPairs (λ one other. one ≢ other) keys
  pub full : (options.words ≤ (length keys + 1) * (words - 1) + sum_by (λ key. room_in key from 0 earlier) keys) ⊎ (SLOTS * (options.spares + 1) ≤ length keys)

-- Why so many words are not stored under a key. Its part bears no more writes. Or it is a store's, is full, and the key's own room is too short. Or it is a cache's, whose log is
-- shorter, or bears no more words. Nothing else is refused where no words are stored but for the first and the last.
abbrev pub LacksRoom : Options → Shelf → List Done → List ℕ → ℕ → Type 0
LacksRoom options from earlier key words =
    (options.wear ≤ writes_in from earlier)
    ⊎ ((options.mode ≡ Store) × (room_in key from 0 earlier < words) × IsFull options from earlier words)
    ⊎ ((options.mode ≡ Cache) × ((options.words < words) ⊎ (last_tail ≤ (laid_in options.words (λ other. 0) from nothing earlier).written / 65536)))

-- Nothing is refused but where there is no room.
abbrev pub RefusedForCause : Options → Shelf → List Done → Deed → Type 0
RefusedForCause options from earlier (carried second number asked says) =
    is_no_room says ≡ true → LacksRoom options from earlier asked.key (words_in asked.key (becoming second number asked (shelf_in from earlier)))
RefusedForCause options from earlier (flushed part number flush took) = took ≡ false → LacksRoom options from earlier [] 0
RefusedForCause options from earlier _ = ⊤

abbrev pub RefusesWhereFull : Options → Shelf → List Done → Type 0
RefusesWhereFull options from course = AtEach (RefusedForCause options from) [] course
