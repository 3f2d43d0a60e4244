-- Which numbers connections are open under, and how often each may be asked for again.
use Rattle.std.specs.Prelude.{◌≡◌, ◌≢◌, ⊤, ℕ, ◌≤◌, ◌-◌, ◌*◌, List, slice_get, Option, Some, None, Result, Ok}
use Rattle.connections.specs.declared.connections.Event.{Event}
use Rattle.connections.specs.declared.connections.Event.TheVariants.{Opened, TurnedAway, Ready}
use Rattle.connections.specs.declared.connections.Input.{Input}
use Rattle.connections.specs.declared.connections.Input.TheVariants.{Bytes, All}
use Rattle.connections.specs.declared.connections.Broken.{Broken}
use Rattle.connections.specs.Connection.{Connection}
use Rattle.connections.specs.State.{held}
use Rattle.connections.specs.Log.{Log, connections_of}

abbrev pub asks_in : Option Connection → ℕ
asks_in None = 0
asks_in (Some connection) = connection.asks

-- the c-th is under a number, and may be asked for again so many times at least
abbrev pub IsAt : ℕ → ℕ → ℕ → List Connection → Type 0
IsAt number c asks all = (held number all ≡ Some c) × (asks ≤ asks_in (slice_get all c))

-- one is
abbrev pub IsOpenIn : ℕ → ℕ → List Connection → Type 0
IsOpenIn number asks all = (c : ℕ) × IsAt number c asks all

abbrev pub IsOpen : ℕ → ℕ → Log → Type 0
IsOpen number asks log = IsOpenIn number asks (connections_of log)

-- how often more it may be asked for after a read gave this
abbrev pub gained : Result Input Broken → ℕ
gained (Ok (Bytes count)) = 2 * count
gained (Ok (All count)) = 2 * count
gained _ = 0

-- all that are open stay so
abbrev pub Keeps : Log → Log → Type 0
Keeps old new = (number asks : ℕ) → IsOpen number asks old → IsOpen number asks new

-- all but one
abbrev pub KeepsOthers : ℕ → Log → Log → Type 0
KeepsOthers one old new = (number asks : ℕ) → number ≢ one → IsOpen number asks old → IsOpen number asks new

-- and that one may be asked for once less often
abbrev pub AsksOnce : ℕ → ℕ → Log → Log → Type 0
AsksOnce number asks old new = KeepsOthers number old new × IsOpen number (asks - 1) new

-- a fact of what is told before a call and after it
abbrev pub OnLogs : (Log → Log → Type 0) → Option Log → Option Log → Type 0
OnLogs P None new = ⊤
OnLogs P (Some old) None = ⊥
OnLogs P (Some old) (Some new) = P old new

-- a connection that is reported as new is open
abbrev pub IsOpened : Event → Log → Type 0
IsOpened (Opened number) log = IsOpen number 0 log
IsOpened TurnedAway log = ⊤
IsOpened (Ready number) log = ⊤
