-- What calls do to the stream of a source, and to what a sink took.
use Rattle.std.specs.Prelude.{◌≡◌, ℕ, List, [], ◌∷◌, ◌++◌, Option, Some, None, option_map, Bool, true, false, Result, Ok, Err, ⊤}
use Rattle.std.specs.List.{AllByRecursion}
use Rattle.std.specs.Io.KnownBytes.{Appends}
use Rattle.saved_items.specs.declared.blocks.TheConstants.{FIRST_SUM}
use Rattle.saved_items.specs.declared.fault.SavedFault.{SavedFault}
use Rattle.saved_items.specs.declared.fault.SavedFault.TheVariants as faults
use Rattle.saved_items.specs.Blocks.{blocks_text, sum_behind, joined, FillsBlock}
use Rattle.saved_items.specs.Items.{Entry, Keeps, Closes}
use Rattle.saved_items.specs.Reading.{Stream, with_front, stream_at, stop_fault, entry_at, EndsWith, HasEntries}

-- What a source has left, where it tells that, behind content that was read and not given yet.
abbrev pub stream_in : Option (List ℕ) → ℕ → List ℕ → Option Stream
stream_in left sum rest = option_map (λ file. with_front rest (stream_at sum file)) left

-- a known stream loses these bytes of its front
abbrev pub Yields : Option Stream → Option Stream → List ℕ → Type 0
Yields None new bytes = ⊤
Yields (Some old) None bytes = ⊥
Yields (Some old) (Some new) bytes = old ≡ with_front bytes new

-- memory ran out, a read failed, or an entry was refused by who takes it
abbrev pub is_of_outside : SavedFault → Bool
is_of_outside faults.NoMemory = true
is_of_outside faults.Failed = true
is_of_outside faults.Refused = true
is_of_outside _ = false

-- Reading comes to this fault, unless memory ran out or a read failed.
abbrev pub Fails : {Y : Type 0} → SavedFault → Result Y SavedFault → Type 0
Fails fault read = is_of_outside fault ≡ false → read ≡ Err fault

-- A known stream has nothing left, and this is why, unless memory ran out or a read failed.
abbrev pub Stops : SavedFault → Option Stream → Type 0
Stops fault None = ⊤
Stops fault (Some stream) = is_of_outside fault ≡ false → (stream.content ≡ []) × (stop_fault stream.stop ≡ fault)

-- what was read, and the stream behind it
abbrev pub LeadsTo : {Y : Type 0} → Result (Y × Stream) SavedFault → Y → Option Stream → Type 0
LeadsTo read value None = ⊥
LeadsTo read value (Some new) = read ≡ Ok (value, new)

-- What a call returned, seen by view, is what reading a known stream gives, unless memory ran out or a read failed.
abbrev pub Reads : {X Y : Type 0} → (X → Y) → Option Stream → Option Stream → Result X SavedFault → (Stream → Result (Y × Stream) SavedFault) → Type 0
Reads view None new result read = ⊤
Reads view (Some old) new (Ok x) read = LeadsTo (read old) (view x) new
Reads view (Some old) new (Err fault) read = Fails fault (read old)

-- Nothing but zeros to the end of its last block is left of a known stream, or this is what is wrong with it.
abbrev pub Ends : {X : Type 0} → Result X SavedFault → Option Stream → Type 0
Ends result None = ⊤
Ends (Ok x) (Some stream) = EndsWith 0 0 stream None
Ends (Err fault) (Some stream) = is_of_outside fault ≡ false → EndsWith 0 0 stream (Some fault)

-- Who takes entries took these, one after another.
abbrev pub TakesAll : {T : Type 0} → (T → Entry → T → Type 0) → T → List Entry → T → Type 0
TakesAll takes old [] new = new ≡ old
TakesAll {T} takes old (entry ∷ entries) new = (mid : T) × takes old entry mid × TakesAll takes mid entries new

-- whether it closes a partition
abbrev pub closes : Entry → Bool
closes (Keeps pair) = false
closes (Closes closing) = true

-- Where the stream is known, this entry stood at its front.
abbrev pub IsRead : ℕ → Option Stream → Option Stream → Entry → Type 0
IsRead close None now entry = ⊤
IsRead close (Some stream) None entry = ⊥
IsRead close (Some stream) (Some now) entry = entry_at close stream ≡ Ok (entry, now)

-- The entry at the front of the stream was taken.
abbrev pub TakesOne : {T : Type 0} → (T → Entry → T → Type 0) → T → T → ℕ → Bool → Option Stream → Option Stream → Type 0
TakesOne takes old new close closed stream now = (entry : Entry) × takes old entry new × (closes entry ≡ closed) × IsRead close stream now entry

-- The entry at the front of the stream was refused.
abbrev pub RefusesOne : {T : Type 0} → (T → Entry → T → Type 0) → T → T → ℕ → Option Stream → Option Stream → Type 0
RefusesOne refuses old new close stream now = (entry : Entry) × refuses old entry new × IsRead close stream now entry

abbrev pub HasFault : ℕ → Option Stream → SavedFault → Type 0
HasFault close None fault = ⊤
HasFault close (Some stream) fault = entry_at close stream ≡ Err fault

-- Nothing was taken, since the stream has this fault at its front.
abbrev pub TakesNone : {T : Type 0} → T → T → ℕ → Option Stream → SavedFault → Type 0
TakesNone old new close stream fault = (new ≡ old) × HasFault close stream fault

abbrev pub AreEntries : ℕ → ℕ → Option Stream → List Entry → Option SavedFault → Type 0
AreEntries n close None entries end = ⊤
AreEntries n close (Some stream) entries end = HasEntries n close stream entries end

-- What was handed on are the entries of the stream, up to its end or this fault.
abbrev pub HandsOn : {T : Type 0} → (T → Entry → T → Type 0) → T → T → ℕ → ℕ → Option Stream → Option SavedFault → Type 0
HandsOn takes old new n close stream end = (entries : List Entry) × TakesAll takes old entries new × AreEntries n close stream entries end

-- What a sink took since it had before, and what is held back for the next block, are this content.
pub record HasPut (before now : Option (List ℕ)) (sum : ℕ) (held content : List ℕ) : Type 0 where
  pub contents : List (List ℕ)
  pub whole : AllByRecursion FillsBlock contents
  pub took : Appends before now (blocks_text FIRST_SUM contents)
  pub summed : sum ≡ sum_behind FIRST_SUM contents
  pub parts : joined contents ++ held ≡ content

-- the content goes on by these bytes, whatever it was
abbrev pub Puts : Option (List ℕ) → Option (List ℕ) → ℕ → ℕ → List ℕ → List ℕ → List ℕ → Type 0
Puts old new sum sum' held held' bytes = (before : Option (List ℕ)) (content : List ℕ) → HasPut before old sum held content → HasPut before new sum' held' (content ++ bytes)
