-- What is told of the connections at a port: their schedule, and all that calls did, so what stands is a function of both.
use Rattle.std.specs.Prelude.{◌≡◌, ◌<◌, ℕ, ◌==◌, true, List, [], ◌∷◌, ◌++◌, is_some, if◌then◌else◌}
use Rattle.outside.specs.Script.{Script, after_call, is_listed}
use Rattle.connections.specs.declared.schedule.Step.{Step}
use Rattle.connections.specs.declared.schedule.Step.TheVariants.{Happens}
use Rattle.connections.specs.Connection.{Connection}
use Rattle.connections.specs.State.{State, Entry, held, state_after, now_after, met, second, received, sent}

-- The schedule, which calls of `next` fail and how many bytes a read or a write moves at most, and what calls did, the last of them first. A call adds
-- to the entries, and changes nothing else but the count of `next`.
pub record Log : Type 0 where
  pub schedule : List Step
  pub script : Script
  pub entries : List Entry

-- the log of a schedule with which nothing was done yet
abbrev pub new_log : List Step → Script → Log
new_log schedule script = record { schedule = schedule; script = script; entries = [] }

-- the log with its entries changed
abbrev pub with_entries : (List Entry → List Entry) → Log → Log
with_entries f log = record log { entries = f log.entries }

-- the log with one entry more, which stands first
abbrev pub logged : Entry → Log → Log
logged entry log = with_entries (λ entries. entry ∷ entries) log

-- `next` was called once more
abbrev pub called : Log → Log
called log = record log { script = after_call log.script }

-- `next` was called, and its last call is one of those that fail
abbrev pub LastFailed : Log → Type 0
LastFailed log = (0 < log.script.calls) × (is_listed log.script.fails log.script.calls ≡ true)

-- what the schedule and the entries come to
abbrev pub state_of : Log → State
state_of log = state_after log.schedule log.entries

-- which second it is
abbrev pub now_of : Log → ℕ
now_of log = now_after log.schedule log.entries

-- all connections that were made, in order
abbrev pub connections_of : Log → List Connection
connections_of log = (state_of log).connections

-- a connection is under this number
abbrev pub IsHeld : ℕ → Log → Type 0
IsHeld number log = is_some (held number (connections_of log)) ≡ true

-- Which second it was when it was told last. What is answered is answered at it.
abbrev pub second_of : List Entry → ℕ
second_of [] = 0
second_of (second s ∷ entries) = s
second_of (_ ∷ entries) = second_of entries

-- it is told which second it is
abbrev pub timed_entries : List Step → List Entry → List Entry
timed_entries schedule entries = second (now_after schedule entries) ∷ entries

abbrev pub timed : Log → Log
timed log = with_entries (timed_entries log.schedule) log

-- what reads gave of the c-th connection
abbrev pub received_of : ℕ → List Entry → List ℕ
received_of c [] = []
received_of c (received d bytes ∷ entries) = if d == c then received_of c entries ++ bytes else received_of c entries
received_of c (_ ∷ entries) = received_of c entries

-- what writes took for the c-th connection
abbrev pub sent_of : ℕ → List Entry → List ℕ
sent_of c [] = []
sent_of c (sent d bytes ∷ entries) = if d == c then sent_of c entries ++ bytes else sent_of c entries
sent_of c (_ ∷ entries) = sent_of c entries

-- Where the next step may come in the midst of calls, it was met.
abbrev pub after_meeting_one : List Step → List Entry → List Entry
after_meeting_one (Happens c change ∷ later) entries = met ∷ entries
after_meeting_one _ entries = entries

-- A read or a write first meets the next step, where this is one that may come in the midst of calls.
abbrev pub after_met : Log → Log
after_met log = with_entries (after_meeting_one (state_of log).later) log
