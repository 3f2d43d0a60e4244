-- The connections at a port and what is to come, as calls make it of a schedule.
use Rattle.std.specs.Prelude.{ℕ, zero, suc, ◌+◌, ◌&&◌, ◌==◌, not, Bool, List, [], ◌∷◌, ◌++◌, length, slice_get, Option, None, Some, position}
use Rattle.connections.specs.declared.schedule.Step.{Step}
use Rattle.connections.specs.declared.schedule.Step.TheVariants.{Opens, TurnsAway, Reports, Happens}
use Rattle.connections.specs.Connection.{Connection, nothing, new_connection, after_change, after_read, after_write, after_ask, after_close}

-- What calls did. A connection was reported, a new one or another, under its number, or one was turned away; a read or a write met the next step; a read gave
-- bytes of the c-th connection, a write took bytes for it; its holder wants it reported again, or closed it. Behind each report, and behind the bytes of each
-- read, stands which second it was then.
pub data Entry : Type 0 where
  opened : (number : ℕ) → Entry
  reported : (number : ℕ) → Entry
  turned_away : Entry
  met : Entry
  second : ℕ → Entry
  received : ℕ → List ℕ → Entry
  sent : ℕ → List ℕ → Entry
  asked : ℕ → Entry
  closed : ℕ → Entry

-- the connections that were made, in order, and the steps to come
pub record State : Type 0 where
  pub connections : List Connection
  pub later : List Step

-- with the c-th connection changed, where there is one
abbrev pub changed : ℕ → (Connection → Connection) → List Connection → List Connection
changed c f [] = []
changed zero f (connection ∷ all) = f connection ∷ all
changed (suc c) f (connection ∷ all) = connection ∷ changed c f all

-- a connection is under a number until it is closed here
abbrev pub is_under : ℕ → Connection → Bool
is_under number connection = connection.number == number && not connection.is_closed

-- which connection is under a number now
abbrev pub held : ℕ → List Connection → Option ℕ
held number all = position (is_under number) all

-- the number under which the c-th connection is or was; c, where there is none yet
abbrev pub number_or : ℕ → Option Connection → ℕ
number_or c None = c
number_or c (Some connection) = connection.number

-- the number of the c-th connection
abbrev pub number_at : ℕ → List Connection → ℕ
number_at c all = number_or c (slice_get all c)

-- the connections after a step of the schedule, of which one that is made is under the number
abbrev pub after_step : ℕ → Step → List Connection → List Connection
after_step number (Opens window bytes) all = all ++ new_connection number window bytes ∷ []
after_step number TurnsAway all = all
after_step number (Reports c change) all = changed c (after_change change) all
after_step number (Happens c change) all = changed c (after_change change) all

-- the next step was reported, under a number
abbrev pub after_report : ℕ → State → List Step → State
after_report number state [] = state
after_report number state (step ∷ later) = record { connections = after_step number step state.connections; later = later }

-- The next step happened in the midst of other calls: a report of it is to come.
abbrev pub after_meeting : State → List Step → State
after_meeting state (Happens c change ∷ later) =
    record { connections = changed c (after_change change) state.connections; later = later ++ Reports c nothing ∷ [] }
after_meeting state _ = state

-- the state after an entry
abbrev pub after : Entry → State → State
after (opened number) state = after_report number state state.later
after (reported number) state = after_report number state state.later
after turned_away state = after_report 0 state state.later
after met state = after_meeting state state.later
after (received c bytes) state = record state { connections = changed c (after_read (length bytes)) state.connections }
after (second s) state = state
after (sent c bytes) state = record state { connections = changed c (after_write (length bytes)) state.connections }
after (asked c) state = record { connections = changed c after_ask state.connections; later = state.later ++ Reports c nothing ∷ [] }
after (closed c) state = record state { connections = changed c after_close state.connections }

-- what a schedule has become by these calls, the last of them first
abbrev pub state_after : List Step → List Entry → State
state_after schedule [] = record { connections = []; later = schedule }
state_after schedule (entry ∷ entries) = after entry (state_after schedule entries)

-- how many seconds pass by the next step, where it was reported
abbrev pub passing : List Step → ℕ
passing (Reports c change ∷ later) = change.passes
passing (Happens c change ∷ later) = change.passes
passing _ = 0

-- and where it was met
abbrev pub passing_met : List Step → ℕ
passing_met (Happens c change ∷ later) = change.passes
passing_met _ = 0

-- by an entry, where these steps were to come
abbrev pub passing_by : Entry → List Step → ℕ
passing_by (opened number) later = passing later
passing_by (reported number) later = passing later
passing_by turned_away later = passing later
passing_by met later = passing_met later
passing_by _ later = 0

-- which second it is by these calls, the last of them first
abbrev pub now_after : List Step → List Entry → ℕ
now_after schedule [] = 0
now_after schedule (entry ∷ entries) = now_after schedule entries + passing_by entry (state_after schedule entries).later
