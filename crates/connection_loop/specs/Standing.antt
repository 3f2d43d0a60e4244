-- What stands between a front and all its clients at one moment, and what a report makes of that.
use Rattle.std.specs.Prelude.{◌≡◌, ⊤, ℕ, ◌+◌, ◌*◌, ◌≤◌, Bool, true, List, [], ◌++◌, length, slice_get, Option, None, Some}
use Rattle.partition_model.specs.declared.options.Options.{Options}
use Rattle.connections.specs.declared.connections.Event.{Event}
use Rattle.connections.specs.declared.connections.Event.TheVariants.{Opened, TurnedAway, Ready}
use Rattle.connections.specs.State.{Entry, held}
use Rattle.connections.specs.Log.{Log, state_of, connections_of, received_of, sent_of}
use Rattle.fronts.specs.Session.{Sessions}
use Rattle.connection_loop.specs.declared.client.Client.{Client}
use Rattle.connection_loop.specs.declared.desk.TheConstants.{MOST_UNSENT}
use Rattle.connection_loop.specs.Given.{Given, answers_in, given_to}
use Rattle.connection_loop.specs.Clients.{at}
use Rattle.connection_loop.specs.Going.{GoesByThese}
use Rattle.connection_loop.specs.Moments.{TalksThrough, is_timed}
use Rattle.connection_loop.specs.Turns.{GrowsBy, asks_of, moved, most_answers}
use Rattle.connection_loop.specs.Held.{Holds}
use Rattle.connection_loop.specs.Resting.{Tends, TendsBut}

-- nothing was done with the c-th connection yet
pub record IsUntouched (c : ℕ) (entries : List Entry) (all : List Given) : Type 0 where
  pub came : received_of c entries ≡ []
  pub went : sent_of c entries ≡ []
  pub given : given_to c all ≡ []

-- what is held under a number goes with the talk of the connection that is there
pub record HoldsUnder (options : Options) (base : ℕ) (log : Log) (all : List Given) (number : ℕ) (client : Client) : Type 0 where
  pub place : ℕ
  pub under : held number (connections_of log) ≡ Some place
  pub holds : Holds options base MOST_UNSENT place log (given_to place all) client

-- The front had talked with all clients, at each moment of the log, by these answers; it was told which second it is; what is held of each goes with its talk;
-- and nothing was done with connections that are not made yet.
pub record Stands (options : Options) (base : ℕ) (lacking : List ℕ) (log : Log) (all : List Given) (clients : List (Option Client)) : Type 0 where
  pub timed : is_timed log.entries ≡ true
  pub through : TalksThrough options base MOST_UNSENT log.schedule lacking log.entries all
  pub holds : (n : ℕ) (client : Client) → at clients n ≡ Some client → HoldsUnder options base log all n client
  pub to_come : (c : ℕ) → slice_get (connections_of log) c ≡ None → IsUntouched c log.entries all

-- and memory lacked for so many more than these
abbrev pub StandsBut : Options → ℕ → List ℕ → ℕ → Log → List Given → List (Option Client) → Type 0
StandsBut options base lacking count log all clients = (more : List ℕ) × (length more ≡ count) × Stands options base (more ++ lacking) log all clients

-- nothing was done yet with a connection that is reported as new
abbrev pub IsNew : Event → Log → List Given → Type 0
IsNew (Opened number) log all = (c : ℕ) → held number (connections_of log) ≡ Some c → IsUntouched c log.entries all
IsNew TurnedAway log all = ⊤
IsNew (Ready number) log all = ⊤

-- Whatever stood as this was reported, stands after it was served, with these answers more, where memory lacked for so many connections. Few calls were made,
-- and few answers given; no connection was asked for again more often than bytes of it were received or sent, or it was answered. And where each other
-- waited, each waits.
pub record StandsOn (options : Options) (base : ℕ) (event : Event) (clients : List (Option Client)) (count : ℕ) (given : List Given) (now : List (Option Client)) (old new : Log) : Type 0 where
  pub schedule : new.schedule ≡ old.schedule
  pub piece : new.script.piece ≡ old.script.piece
  pub few_calls : GrowsBy 2 old.entries new.entries
  pub few_answers : length given ≤ 2 * most_answers options
  pub earns : (c : ℕ) → asks_of c new.entries + moved c old.entries ≤ asks_of c old.entries + moved c new.entries + length (given_to c given)
  pub on : (lacking : List ℕ) (all : List Given) → IsNew event old all → Stands options base lacking old all clients
      → StandsBut options base lacking count new (all ++ given) now
  pub tends : (lacking : List ℕ) (all : List Given) → Stands options base lacking old all clients
      → TendsBut event old.script.piece (state_of old) clients → Tends old.script.piece (state_of new) now

-- They went on by some answers, of which it is told to whom they were given, and of these P holds.
abbrev pub GoesByGiven : Options → Bool → Sessions → ℕ → ℕ → Sessions → ℕ → ℕ → (List Given → Type 0) → Type 0
GoesByGiven options is_alone old left told new left_after tells P =
    (given : List Given) × GoesByThese options is_alone old left told (answers_in given) new left_after tells × P given
