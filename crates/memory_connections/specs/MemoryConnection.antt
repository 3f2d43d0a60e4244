-- What a connection in memory answers where nothing waits, and how much room all that can happen takes in the log.
use Rattle.std.specs.Prelude.{◌≡◌, ℕ, ◌+◌, ◌*◌, Bool, true, false, List, ◌++◌, length, drop, map, nat_lt, Result, Ok, Err, if◌then◌else◌}
use Rattle.std.specs.List.{sum_by, list_all}
use Rattle.connections.specs.declared.schedule.Step.{Step}
use Rattle.connections.specs.declared.schedule.Step.TheVariants.{Opens, TurnsAway, Reports, Happens}
use Rattle.connections.specs.declared.connections.Input.{Input}
use Rattle.connections.specs.declared.connections.Input.TheVariants.{Bytes, All, Later, Ended}
use Rattle.connections.specs.declared.connections.Broken.{Broken}
use Rattle.connections.specs.Connection.{Connection, nothing}
use Rattle.connections.specs.State.{State}

abbrev pub IsSilent : Connection → Result Input Broken → Type 0
IsSilent c (Ok (Bytes count)) = ⊥
IsSilent c (Ok (All count)) = ⊥
IsSilent c (Ok Later) = (c.is_broken ≡ false) × (c.has_ended ≡ false)
IsSilent c (Ok Ended) = (c.is_broken ≡ false) × (c.has_ended ≡ true)
IsSilent c (Err broken) = c.is_broken ≡ true

-- a report that is to come, of what happened in the midst of calls or was asked for
abbrev pub owed : ℕ → Step
owed c = Reports c nothing

-- the steps to come: those of the schedule from a place on, and then the reports that are owed from a place on
abbrev pub pending : List Step → ℕ → List ℕ → ℕ → List Step
pending schedule at reports reported = drop at schedule ++ map owed (drop reported reports)

-- Behind each report and each read stands which second it is. A byte that comes is read, and lets its connection be asked for twice, each time with a report: at
-- most eight entries.
abbrev pub cost_of : Step → ℕ
cost_of (Opens window bytes) = window + 3
cost_of TurnsAway = 2
cost_of (Reports c change) = 8 * change.comes + change.takes + 2
cost_of (Happens c change) = 8 * change.comes + change.takes + 3

abbrev pub need_of : Connection → ℕ
need_of c = 8 * length c.waiting + c.window + 3 * c.asks + (if c.is_closed then 0 else 1)

abbrev pub need : State → ℕ
need state = sum_by cost_of state.later + sum_by need_of state.connections

-- each number is below this one
abbrev pub are_below : ℕ → List Connection → Bool
are_below bound all = list_all (λ c. nat_lt c.number bound) all
