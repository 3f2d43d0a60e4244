-- What calls for one connection make of a log.
use Rattle.std.specs.Prelude.{◌≡◌, ◌≢◌, ◌⊎◌, ◌<◌, ⊤, ℕ, Bool, true, false, List, [], ◌∷◌, ◌++◌, length, take, slice_get, Option, Some, IfSome, Result, Ok, Err}
use Rattle.std.specs.List.{AllByRecursion}
use Rattle.connections.specs.declared.schedule.Step.{Step}
use Rattle.connections.specs.declared.schedule.Step.TheVariants.{Opens, TurnsAway, Reports, Happens}
use Rattle.connections.specs.declared.connections.Broken.{Broken}
use Rattle.connections.specs.declared.connections.Input.{Input}
use Rattle.connections.specs.declared.connections.Input.TheVariants.{Bytes, All, Later, Ended}
use Rattle.connections.specs.Connection.{Connection}
use Rattle.connections.specs.State.{Entry, met, second, received, sent}
use Rattle.connections.specs.Log.{Log, state_of, connections_of, sent_of}
use Rattle.connections.specs.Calls.{OfHeld}

-- a step was met, or a write took bytes for the c-th connection
abbrev pub IsSend : ℕ → Entry → Type 0
IsSend c met = ⊤
IsSend c (sent d bytes) = d ≡ c
IsSend c _ = ⊥

-- These bytes were sent on the c-th connection, in pieces, between which steps may have been met.
pub record Sends (c : ℕ) (text : List ℕ) (old new : Log) : Type 0 where
  pub schedule : new.schedule ≡ old.schedule
  pub piece : new.script.piece ≡ old.script.piece
  pub more : List Entry
  pub each : AllByRecursion (IsSend c) more
  pub entries : new.entries ≡ more ++ old.entries
  pub sent : sent_of c new.entries ≡ sent_of c old.entries ++ text

-- a read of the c-th connection that gave bytes is told, and which second it is then
abbrev pub after_receiving : ℕ → ℕ → List ℕ → List Entry → List Entry
after_receiving s c [] entries = entries
after_receiving s c (byte ∷ bytes) entries = second s ∷ received c (byte ∷ bytes) ∷ entries

-- The c-th connection was read once at most, which gave these bytes. Steps may have been met before.
pub record Reads (c : ℕ) (bytes : List ℕ) (old new : Log) : Type 0 where
  pub schedule : new.schedule ≡ old.schedule
  pub piece : new.script.piece ≡ old.script.piece
  pub mets : List Entry
  pub each : AllByRecursion (λ e. e ≡ met) mets
  pub at : ℕ
  pub entries : new.entries ≡ after_receiving at c bytes (mets ++ old.entries)

-- of the c-th connection of a log
abbrev pub IsIn : (Connection → Type 0) → ℕ → Log → Type 0
IsIn P c log = IfSome (slice_get (connections_of log) c) P

abbrev pub IsBroken : Connection → Type 0
IsBroken connection = connection.is_broken ≡ true

-- it sends no more, and all that it sent was read
pub record HasEnded (connection : Connection) : Type 0 where
  pub ended : connection.has_ended ≡ true
  pub read : connection.waiting ≡ []
  pub none : connection.to_come ≡ []

-- it may send more, and all that came was read
pub record IsDrained (connection : Connection) : Type 0 where
  pub read : connection.waiting ≡ []
  pub whole : connection.is_broken ≡ false
  pub goes_on : connection.has_ended ≡ false

-- its peer takes no more now
pub record IsShut (connection : Connection) : Type 0 where
  pub shut : connection.window ≡ 0
  pub whole : connection.is_broken ≡ false

-- the peer of the c-th connection of a log takes no more now, where calls can move bytes at all
abbrev pub IsShutIn : ℕ → Log → Type 0
IsShutIn c log = 0 < log.script.piece → IsIn IsShut c log

-- a report of the c-th connection is to come
abbrev pub IsToCome : ℕ → List Step → Type 0
IsToCome c [] = ⊥
IsToCome c (Opens window bytes ∷ later) = IsToCome c later
IsToCome c (TurnsAway ∷ later) = IsToCome c later
IsToCome c (Reports d change ∷ later) = (d ≡ c) ⊎ IsToCome c later
IsToCome c (Happens d change ∷ later) = (d ≡ c) ⊎ IsToCome c later

-- of the connection that was under a number before
abbrev pub OnHeld : ℕ → (ℕ → Log → Log → Type 0) → Log → Log → Type 0
OnHeld number P old new = OfHeld number old (λ c. P c old new)

-- so much of a text was sent
abbrev pub SendsSome : List ℕ → ℕ → Log → Log → Type 0
SendsSome text c old new = (n : ℕ) × Sends c (take n text) old new

-- so much of a text was sent, and the peer takes no more where that is not all; or the connection is broken
abbrev pub SendsOf : List ℕ → Result ℕ Broken → ℕ → Log → Log → Type 0
SendsOf text (Ok n) c old new = Sends c (take n text) old new × (n < length text → IsShutIn c new)
SendsOf text (Err broken) c old new = SendsSome text c old new × IsIn IsBroken c new

-- the rest of a text is left, where so much was sent, and the peer takes none of it; or the connection is broken
abbrev pub SendsFrom : {X : Type 0} → List ℕ → List ℕ → Result X Broken → ℕ → Log → Log → Type 0
SendsFrom before after (Ok all) c old new = (text : List ℕ) × Sends c text old new × (before ≡ text ++ after) × (after ≢ [] → IsShutIn c new)
SendsFrom before after (Err broken) c old new = SendsSome before c old new × IsIn IsBroken c new

-- nothing more has come, as a read says
abbrev pub is_drained : Option Input → Bool
is_drained (Some Later) = true
is_drained (Some (All count)) = true
is_drained _ = false

-- nothing of the c-th connection waits until there is a report
abbrev pub IsDrainedIn : ℕ → Log → Type 0
IsDrainedIn c log = IsToCome c (state_of log).later ⊎ IsIn IsDrained c log

-- What a read says beside the bytes that it gave: the end came, or nothing waits.
abbrev pub EndsBy : Option Input → ℕ → Log → Type 0
EndsBy (Some Ended) c log = IsIn HasEnded c log
EndsBy (Some Later) c log = IsDrainedIn c log
EndsBy (Some (All count)) c log = IsDrainedIn c log
EndsBy _ c log = ⊤

-- what a read made of a log, and what it said beside the bytes
abbrev pub ReadsTo : {X : Type 0} → (X → Option Input) → List ℕ → Result X Broken → ℕ → Log → Log → Type 0
ReadsTo input bytes (Ok x) c old new = Reads c bytes old new × EndsBy (input x) c new
ReadsTo input bytes (Err broken) c old new = Reads c [] old new × IsIn IsBroken c new

-- a read says so
abbrev pub why : Input → Option Input
why input = Some input

-- the bytes that it gave
abbrev pub bytes_read : List ℕ → Result Input Broken → List ℕ
bytes_read out (Ok (Bytes count)) = take count out
bytes_read out (Ok (All count)) = take count out
bytes_read out _ = []
