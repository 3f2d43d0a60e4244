-- Which connections wait for their peers, and how they go on doing so.
use Rattle.std.specs.Prelude.{◌≡◌, ◌≢◌, ◌⊎◌, ◌<◌, ⊤, ℕ, ◌==◌, Bool, true, false, List, [], slice_get, Option, None, Some, is_some, IfSome}
use Rattle.memcached_requests.specs.declared.request.Next.TheVariants.{More}
use Rattle.memcached_requests.specs.Next.{next_of}
use Rattle.connections.specs.declared.connections.Event.{Event}
use Rattle.connections.specs.declared.connections.Event.TheVariants.{Opened, TurnedAway, Ready}
use Rattle.connections.specs.Connection.{Connection}
use Rattle.connections.specs.State.{State, is_under, held}
use Rattle.connection_loop.specs.declared.client.Client.{Client}
use Rattle.connection_loop.specs.Clients.{at}
use Rattle.connection_loop.specs.Traffic.{IsDrained, IsShut, IsToCome}

-- What a connection waits for, where this is held of its client: that its peer takes replies, as it takes none now; or that it sends more, where no reply and
-- nothing whole waits.
pub data IsAtRest (client : Client) (connection : Connection) : Type 0 where
  shut : client.unsent ≢ [] → IsShut connection → IsAtRest client connection
  idle : client.unsent ≡ [] → client.leaving ≡ false → next_of client.kept ≡ More → IsDrained connection → IsAtRest client connection

-- A report of the c-th connection is to come; or it waits, where a call moves so many bytes at most, and some.
abbrev pub Rests : Client → ℕ → ℕ → State → Type 0
Rests client c piece state = IsToCome c state.later ⊎ (0 < piece → IfSome (slice_get state.connections c) (IsAtRest client))

-- the connection is open under this number
abbrev pub is_there : ℕ → Option Connection → Bool
is_there n None = false
is_there n (Some connection) = is_under n connection

-- one connection at most is open under a number
abbrev pub AreApart : List Connection → Type 0
AreApart all = (n c : ℕ) → is_there n (slice_get all c) ≡ true → held n all ≡ Some c

-- the c-th connection is held under a number, and waits
pub record Tended (piece n c : ℕ) (state : State) (clients : List (Option Client)) : Type 0 where
  pub client : Client
  pub is_held : at clients n ≡ Some client
  pub rests : Rests client c piece state

-- each that is open is
pub record Tends (piece : ℕ) (state : State) (clients : List (Option Client)) : Type 0 where
  pub apart : AreApart state.connections
  pub each : (n c : ℕ) → held n state.connections ≡ Some c → Tended piece n c state clients

-- what is reported is under no such number
abbrev pub IsOther : ℕ → Event → Type 0
IsOther n (Opened number) = n ≢ number
IsOther n TurnedAway = ⊤
IsOther n (Ready number) = n ≢ number

-- of what is reported: a new connection sent nothing yet, and another is held
abbrev pub IsTold : Event → State → List (Option Client) → Type 0
IsTold (Opened number) state clients = (c : ℕ) → held number state.connections ≡ Some c → IfSome (slice_get state.connections c) IsDrained
IsTold TurnedAway state clients = ⊤
IsTold (Ready number) state clients = (c : ℕ) → held number state.connections ≡ Some c → is_some (at clients number) ≡ true

-- each but the one that is reported
pub record TendsBut (event : Event) (piece : ℕ) (state : State) (clients : List (Option Client)) : Type 0 where
  pub apart : AreApart state.connections
  pub each : (n c : ℕ) → IsOther n event → held n state.connections ≡ Some c → Tended piece n c state clients
  pub told : IsTold event state clients

-- Calls were made for the c-th connection. Numbers stay, and reports that were to come are. Of each other, a report is to come, or nothing happened. Where
-- nothing of the c-th waited, nothing does, or a report is to come.
pub record Moves (c : ℕ) (old new : State) : Type 0 where
  pub there : (n d : ℕ) → is_there n (slice_get new.connections d) ≡ is_there n (slice_get old.connections d)
  pub same : (n : ℕ) → held n new.connections ≡ held n old.connections
  pub to_come : (d : ℕ) → IsToCome d old.later → IsToCome d new.later
  pub others : (d : ℕ) → (c == d) ≡ false → IsToCome d new.later ⊎ (slice_get new.connections d ≡ slice_get old.connections d)
  pub own : IsToCome c new.later ⊎ (IfSome (slice_get old.connections c) IsDrained → IfSome (slice_get new.connections c) IsDrained)
