-- A schedule as it is played in memory, and what its parts keep.
use Rattle.std.specs.Prelude.{◌≡◌, ◌≤◌, ◌<◌, ℕ, ◌+◌, ◌*◌, ◌^◌, true, List, length}
use Rattle.connections.specs.declared.schedule.Step.{Step}
use Rattle.connections.specs.Connection.{Connection}
use Rattle.connections.specs.State.{State, Entry, state_after, now_after}
use Rattle.connections.specs.Log.{second_of}
use Rattle.memory_connections.specs.MemoryConnection.{pending, need, are_below}

-- the schedule, what calls did, the last of them first, and for how many entries more there is room
pub record Played : Type 0 where
  pub schedule : List Step
  pub entries : List Entry
  pub room : ℕ

abbrev pub played_state : Played → State
played_state played = state_after played.schedule played.entries

abbrev pub played_connections : Played → List Connection
played_connections played = (played_state played).connections

-- so many seconds pass at most by a step
abbrev pub MOST_PASSING : ℕ
MOST_PASSING = 4294967295

-- which second it is, and which was told last; and however the steps to come pass, seconds fit a word
pub record IsTimed (schedule : List Step) (entries : List Entry) (room now told : ℕ) : Type 0 where
  pub now_is : now ≡ now_after schedule entries
  pub told_is : told ≡ second_of entries
  pub later : told ≤ now
  pub fits : now + MOST_PASSING * room < 2 ^ 64

-- what stands after these entries, and that there is room for all that may follow
pub record Goes (schedule : List Step) (entries : List Entry) (room : ℕ) (state : State) : Type 0 where
  pub stands : state_after schedule entries ≡ state
  pub fits : need (state_after schedule entries) ≤ room

pub record IsStage (schedule : List Step) (at : ℕ) (reports : List ℕ) (paid : ℕ) (all : List Connection) (entries : List Entry) (room : ℕ) : Type 0 where
  pub at_fits : at ≤ length schedule
  pub paid_fits : paid ≤ length reports
  pub goes : Goes schedule entries room (record { connections = all; later = pending schedule at reports paid })
  pub few : length all + room < 4294967296
  pub numbers : are_below (length all) all ≡ true
