-- A file by its name, one beside it that is to take its name, and what a crash leaves.
use Rattle.std.specs.Prelude.{◌≡◌, ◌⊎◌, ℕ, ◌≤◌, List, [], ◌∷◌, ◌++◌, length, take, drop, Option, Some, None, option_map, ⊤}

-- What a name stands for: a file or none, and how many of its first bytes are on the disk.
pub record Version : Type 0 where
  pub file : Option (List ℕ)
  pub kept : ℕ

pub record FileState : Type 0 where
  -- what the name stood for, in turn, and what it stands for
  pub past : List Version
  pub now : Version
  -- from which of these on a crash may leave it, since the names were not synced behind it
  pub first : ℕ
  -- the bytes of the file beside, and how many of them are on the disk
  pub beside : List ℕ
  pub kept : ℕ

-- what a read gives
abbrev pub seen : FileState → Option (List ℕ)
seen state = state.now.file

-- A crash leaves this of a file: the bytes that are on the disk, and maybe more of them.
abbrev pub LeavesOf : Version → Option (List ℕ) → Type 0
LeavesOf version left = (n : ℕ) × (version.kept ≤ n) × (left ≡ option_map (take n) version.file)

abbrev pub LeavesOne : List Version → Option (List ℕ) → Type 0
LeavesOne [] left = ⊥
LeavesOne (version ∷ versions) left = LeavesOf version left ⊎ LeavesOne versions left

-- a crash at some moment behind the first so many versions leaves this
abbrev pub LeavesSince : ℕ → FileState → Option (List ℕ) → Type 0
LeavesSince n state left = LeavesOne (drop n state.past) left ⊎ LeavesOf state.now left

-- a crash now leaves this
abbrev pub MayLeave : FileState → Option (List ℕ) → Type 0
MayLeave state left = LeavesSince state.first state left

-- a crash now leaves what a read gives
abbrev pub IsSettled : FileState → Type 0
IsSettled state = (left : Option (List ℕ)) → MayLeave state left → left ≡ seen state

-- what is at its beginning where nothing is said
abbrev pub Told : Option FileState → (FileState → Type 0) → Type 0
Told None P = ⊤
Told (Some state) P = P state

-- A crash at any moment between these states leaves what was there, or this.
abbrev pub LeavesEither : Option FileState → Option FileState → Option (List ℕ) → Type 0
LeavesEither None new other = ⊤
LeavesEither (Some old) None other = ⊥
LeavesEither (Some old) (Some new) other = (left : Option (List ℕ)) → LeavesSince old.first new left → (left ≡ seen old) ⊎ (left ≡ other)

-- the bytes beside, as a file
abbrev pub beside_of : Option FileState → Option (List ℕ)
beside_of state = option_map (λ s. s.beside) state

-- what the name stood for and stands for, and what a crash leaves of it, is as it was
abbrev pub KeepsFile : Option FileState → Option FileState → Type 0
KeepsFile None None = ⊤
KeepsFile None (Some new) = ⊥
KeepsFile (Some old) None = ⊥
KeepsFile (Some old) (Some new) = (new.past ≡ old.past) × (new.now ≡ old.now) × (new.first ≡ old.first)

-- ---- what calls do

abbrev pub begun : FileState → FileState
begun state = record state { beside = []; kept = 0 }

abbrev pub appended : List ℕ → FileState → FileState
appended piece state = record state { beside = state.beside ++ piece }

abbrev pub synced : FileState → FileState
synced state = record state { kept = length state.beside }

abbrev pub named : Version → FileState → FileState
named version state = record state { past = state.past ++ state.now ∷ []; now = version; beside = []; kept = 0 }

-- the file beside takes the name
abbrev pub renamed : FileState → FileState
renamed state = named (record { file = Some state.beside; kept = state.kept }) state

-- the name stands for nothing
abbrev pub put_away : FileState → FileState
put_away state = named (record { file = None; kept = 0 }) state

abbrev pub names_synced : FileState → FileState
names_synced state = record state { first = length state.past }

-- A call that failed has done nothing, or all of it.
abbrev pub Tries : (FileState → FileState) → Option FileState → Option FileState → Type 0
Tries call old new = (new ≡ old) ⊎ (new ≡ option_map call old)
