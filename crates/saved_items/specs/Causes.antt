-- Why a call stops where the file has no fault.
use Rattle.std.specs.Prelude.{◌≡◌, ◌<◌, ℕ, List, [], ◌∷◌, length, Option, Some, None, Ok, ⊤}
use Rattle.outside.specs.Faults.{Rose, LAST_COUNT}
use Rattle.saved_items.specs.declared.fault.SavedFault.{SavedFault}
use Rattle.saved_items.specs.declared.fault.SavedFault.TheVariants as faults
use Rattle.saved_items.specs.Items.{Entry, left_after, close_after}
use Rattle.saved_items.specs.Reading.{Stream, entry_at}
use Rattle.saved_items.specs.Moves.{TakesAll}

-- A call says that a read failed only where the source's count of faults rose in it, and that an entry was refused only for this cause.
abbrev pub HasCause : ℕ → ℕ → Type 0 → SavedFault → Type 0
HasCause before after refused faults.Failed = Rose before after
HasCause before after refused faults.Refused = refused
HasCause before after refused _ = ⊤

-- In a stream in which so many partitions are still to be closed, this entry stands behind these.
abbrev pub StandsBehind : ℕ → ℕ → Stream → List Entry → Entry → Type 0
StandsBehind n close stream [] entry = (0 < n) × (rest : Stream) × (entry_at close stream ≡ Ok (entry, rest))
StandsBehind n close stream (first ∷ entries) entry =
    (0 < n) × (rest : Stream) × (entry_at close stream ≡ Ok (first, rest)) × StandsBehind (left_after n first) (close_after close first) rest entries entry

abbrev pub IsNext : ℕ → ℕ → Option Stream → List Entry → Entry → Type 0
IsNext n close None entries entry = ⊤
IsNext n close (Some stream) entries entry = StandsBehind n close stream entries entry

-- Entries of the stream were taken, and who takes them refused the next one.
abbrev pub Refuses : {T : Type 0} → (takes refuses : T → Entry → T → Type 0) → T → T → ℕ → ℕ → Option Stream → Type 0
Refuses {T} takes refuses old new n close stream =
    (entries : List Entry) × (entry : Entry) × (mid : T) × TakesAll takes old entries mid × refuses mid entry new × IsNext n close stream entries entry

-- So many were taken that one more could not be counted.
abbrev pub TakesMost : {T : Type 0} → (T → Entry → T → Type 0) → T → T → Type 0
TakesMost takes old new = (entries : List Entry) × TakesAll takes old entries new × (length entries ≡ LAST_COUNT)
