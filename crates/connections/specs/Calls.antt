-- What each call answers, and what it adds to the log.
use Rattle.std.specs.Prelude.{◌≡◌, ◌<◌, ◌≤◌, ℕ, Bool, true, false, is_some, List, [], ◌∷◌, length, take, min, slice_get, Option, Some, None, Result, Ok, Err, IfSome, ⊤}
use Rattle.connections.specs.declared.schedule.Step.{Step}
use Rattle.connections.specs.declared.schedule.Step.TheVariants.{Opens, TurnsAway, Reports, Happens}
use Rattle.connections.specs.Connection.{Connection}
use Rattle.connections.specs.State.{Entry, held, number_at, opened, reported, turned_away, second, received, sent, asked, closed}
use Rattle.connections.specs.Log.{Log, state_of, now_of, connections_of, with_entries, logged, called, timed, after_met}
use Rattle.connections.specs.declared.connections.Event.{Event}
use Rattle.connections.specs.declared.connections.Event.TheVariants.{Opened, TurnedAway, Ready}
use Rattle.connections.specs.declared.connections.Input.{Input}
use Rattle.connections.specs.declared.connections.Input.TheVariants.{Bytes, All, Later, Ended}
use Rattle.connections.specs.declared.connections.Broken.{Broken}

-- Whether the next step is told by this event. A new connection gets any number that is free.
abbrev pub IsNext : Event → List Connection → List Step → Type 0
IsNext (Opened number) all (Opens window bytes ∷ later) = held number all ≡ None
IsNext TurnedAway all (TurnsAway ∷ later) = ⊤
IsNext (Ready number) all (Reports c change ∷ later) = number ≡ number_at c all
IsNext (Ready number) all (Happens c change ∷ later) = number ≡ number_at c all
IsNext _ all _ = ⊥

abbrev pub entry_of : Event → Entry
entry_of (Opened number) = opened number
entry_of TurnedAway = turned_away
entry_of (Ready number) = reported number

-- the next step was reported
pub record ReportsNext (old : Log) (event : Event) (new : Option Log) : Type 0 where
  pub next : IsNext event (connections_of old) (state_of old).later
  pub result : new ≡ Some (timed (logged (entry_of event) (called old)))

-- no step is left
pub record IsOver (old : Log) (new : Option Log) : Type 0 where
  pub over : (state_of old).later ≡ []
  pub result : new ≡ Some (called old)

-- of the connection that is under a number, by its place
abbrev pub OfHeld : ℕ → Log → (ℕ → Type 0) → Type 0
OfHeld number log P = IfSome (held number (connections_of log)) P

-- a read of a connection gives so many bytes of what waits, as many as it may
abbrev pub GivesSome : Connection → ℕ → List ℕ → ℕ → Type 0
GivesSome connection most out count =
    (0 < count) × (count ≡ min (length connection.waiting) most) × (take count out ≡ take count connection.waiting)

-- so many bytes are all that waits, and more may come
abbrev pub IsAll : Connection → ℕ → Type 0
IsAll connection count = (count ≡ length connection.waiting) × (connection.is_broken ≡ false) × (connection.has_ended ≡ false)

-- Whether a read of a connection gives this, up to so many bytes: all that waits; and where nothing waits, why.
abbrev pub IsGiven : Connection → ℕ → List ℕ → Result Input Broken → Type 0
IsGiven connection most out (Ok (Bytes count)) = GivesSome connection most out count
IsGiven connection most out (Ok (All count)) = GivesSome connection most out count × IsAll connection count
IsGiven connection most out (Ok Later) = (connection.waiting ≡ []) × (connection.is_broken ≡ false) × (connection.has_ended ≡ false)
IsGiven connection most out (Ok Ended) = (connection.waiting ≡ []) × (connection.is_broken ≡ false) × (connection.has_ended ≡ true)
IsGiven connection most out (Err broken) = (connection.waiting ≡ []) × (connection.is_broken ≡ true)

-- at least one byte is given, and no more than there is room for
abbrev pub FitsRoom : ℕ → Input → Type 0
FitsRoom room (Bytes count) = (0 < count) × (count ≤ room)
FitsRoom room (All count) = (0 < count) × (count ≤ room)
FitsRoom room _ = ⊤

-- after such a read of the c-th connection, in this second
abbrev pub gave : ℕ → ℕ → Connection → Result Input Broken → List Entry → List Entry
gave now c connection (Ok (Bytes count)) entries = second now ∷ received c (take count connection.waiting) ∷ entries
gave now c connection (Ok (All count)) entries = second now ∷ received c (take count connection.waiting) ∷ entries
gave now c connection _ entries = entries

-- Whether a write to a connection takes so much of a piece: all of it, up to the window and the most that one call moves.
abbrev pub IsTaken : Connection → ℕ → List ℕ → Result ℕ Broken → Type 0
IsTaken connection most bytes (Ok count) = (connection.is_broken ≡ false) × (count ≡ min (length bytes) (min connection.window most))
IsTaken connection most bytes (Err broken) = connection.is_broken ≡ true

-- where nothing was taken, there is nothing to tell
abbrev pub after_sending : ℕ → List ℕ → List Entry → List Entry
after_sending c [] entries = entries
after_sending c (byte ∷ bytes) entries = sent c (byte ∷ bytes) ∷ entries

-- after such a write for the c-th connection
abbrev pub took : ℕ → List ℕ → Result ℕ Broken → List Entry → List Entry
took c bytes (Ok count) entries = after_sending c (take count bytes) entries
took c bytes (Err broken) entries = entries

-- A read or a write may first meet a step. What it answers is said by the connection as it is then, of which this is the place.
abbrev pub AfterMeeting : ℕ → Log → (ℕ → Connection → Type 0) → Type 0
AfterMeeting number log P = OfHeld number log (λ c. IfSome (slice_get (connections_of (after_met log)) c) (P c))

-- what a read of so much room answers and gives, and the entry that it leaves in the log
abbrev pub ReadGives : ℕ → ℕ → List ℕ → Result Input Broken → Log → Option Log → Type 0
ReadGives number room out answer old new = AfterMeeting number old (λ c connection.
    IsGiven connection (min room old.script.piece) out answer × (new ≡ Some (with_entries (gave (now_of (after_met old)) c connection answer) (after_met old))))

-- what a write of these bytes answers, and the entry that it leaves in the log
abbrev pub WriteTakes : ℕ → List ℕ → Result ℕ Broken → Log → Option Log → Type 0
WriteTakes number bytes answer old new = AfterMeeting number old (λ c connection.
    IsTaken connection old.script.piece bytes answer × (new ≡ Some (with_entries (took c bytes answer) (after_met old))))

-- the connection under this number may be had reported again
abbrev pub MayAsk : ℕ → Log → Type 0
MayAsk number log = (c : ℕ) → held number (connections_of log) ≡ Some c
    → IfSome (slice_get (connections_of log) c) (λ connection. 0 < connection.asks)

-- the log goes on by a call of `again`
abbrev pub Asks : ℕ → Log → Option Log → Type 0
Asks number old new = OfHeld number old (λ c. new ≡ Some (logged (asked c) old))

-- the log goes on by a close
abbrev pub Closes : ℕ → Log → Option Log → Type 0
Closes number old new = OfHeld number old (λ c. new ≡ Some (logged (closed c) old))

-- What a call leaves of a port that is no report of it: it is told where it was, and has not ended; no fault was counted, it is the same share; and no more
-- reports are to come than before.
pub record Leaves {Port : Type 0} (log : Port → Option Log) (has_ended : Port → Bool) (faults share reports : Port → ℕ) (old new : Port) : Type 0 where
  pub told : is_some (log new) ≡ is_some (log old)
  pub ended : has_ended new ≡ has_ended old
  pub no_fault : faults new ≡ faults old
  pub same_share : share new ≡ share old
  pub no_more : reports new ≤ reports old
