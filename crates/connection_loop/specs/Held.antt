-- What is held of a client beside its talk, and what a visit makes of both.
use Rattle.std.specs.Prelude.{◌≡◌, ◌⊎◌, ℕ, ◌==◌, ◌+◌, ◌*◌, ◌<◌, ◌≤◌, Bool, true, false, List, [], ◌++◌, length, map, take, drop, slice_get, Option, None, Some, IfSome, Result, Ok, Err}
use Rattle.partition_model.specs.declared.options.Options.{Options}
use Rattle.memcached_requests.specs.declared.request.Next.TheVariants.{More}
use Rattle.memcached_text.specs.declared.limits.TheConstants.{MAX_WAITING_LEN}
use Rattle.memcached_requests.specs.Next.{next_of}
use Rattle.connections.specs.declared.connections.Broken.{Broken}
use Rattle.connections.specs.declared.connections.Input.{Input}
use Rattle.connections.specs.declared.connections.Input.TheVariants.{Ended}
use Rattle.connections.specs.Log.{Log, state_of, connections_of, received_of, second_of, sent_of}
use Rattle.fronts.specs.Answered.{Answered}
use Rattle.command_answers.specs.Seconds.{AreAt}
use Rattle.connection_loop.specs.declared.answer.Halt.{Halt}
use Rattle.connection_loop.specs.declared.answer.Halt.TheVariants.{Needs, Leaves}
use Rattle.connection_loop.specs.declared.client.Client.{Client}
use Rattle.connection_loop.specs.declared.desk.TheConstants.{MOST_UNSENT}
use Rattle.connection_loop.specs.declared.visit.After.{After}
use Rattle.connection_loop.specs.declared.visit.After.TheVariants.{Waits, Again, Over}
use Rattle.connection_loop.specs.Given.{Given, given_to}
use Rattle.connection_loop.specs.Reached.{Reaches, Ends, GoesOnTo, SpokeFrom, SpokeBehind, HaltsAs, position_of}
use Rattle.connection_loop.specs.Closing.{MayClose}
use Rattle.connection_loop.specs.Moments.{IsAmong, TalksThrough, is_timed}
use Rattle.connection_loop.specs.Turns.{GrowsBy, asks_of, moved, most_answers}
use Rattle.connection_loop.specs.Traffic.{Reads, IsIn, IsBroken, HasEnded, EndsBy, is_drained}
use Rattle.connection_loop.specs.Resting.{Moves, Rests}

-- What is held of the client of the c-th connection goes with their talk, where these answers were given. What is unsent is the end of what is due, so many
-- bytes at most. More of it is read, from the position that is kept; or it asked for the end; or it sends no more, and nothing whole is left of what it said.
pub data Holds (options : Options) (base most c : ℕ) (log : Log) (answers : List Answered) (client : Client) : Type 0 where
  goes_on : client.leaving ≡ false → length client.unsent ≤ most
      → Reaches options base (position_of client) (received_of c log.entries) answers (sent_of c log.entries ++ client.unsent) → Holds options base most c log answers client
  left : client.leaving ≡ true → length client.unsent ≤ most
      → Ends options base MAX_WAITING_LEN (received_of c log.entries) answers (sent_of c log.entries ++ client.unsent) → Holds options base most c log answers client
  ended : client.leaving ≡ true → length client.unsent ≤ most
      → Reaches options base (position_of client) (received_of c log.entries) answers (sent_of c log.entries ++ client.unsent) → next_of client.kept ≡ More
      → IsIn HasEnded c log → Holds options base most c log answers client

-- these were given to the c-th connection
abbrev pub all_to : ℕ → List Answered → List Given
all_to c answers = map (λ a. record { to = c; answered = a }) answers

-- What became of it: it may be closed; or what is held of it goes with the talk, and waits for its peer or not.
abbrev pub Becomes : Options → ℕ → ℕ → ℕ → Log → List Answered → Client → After → Type 0
Becomes options base most c log answers client Over =
    IfSome (slice_get (connections_of log) c) (λ connection. MayClose options base connection (received_of c log.entries) (sent_of c log.entries) answers)
Becomes options base most c log answers client Waits = Holds options base most c log answers client × Rests client c log.script.piece (state_of log)
Becomes options base most c log answers client Again = Holds options base most c log answers client

-- nothing moved of the d-th connection; where it had ended it has, and where it is not made it was not
pub record StaysAs (d : ℕ) (old new : Log) : Type 0 where
  pub came : received_of d new.entries ≡ received_of d old.entries
  pub went : sent_of d new.entries ≡ sent_of d old.entries
  pub over : IsIn HasEnded d old → IsIn HasEnded d new
  pub made : slice_get (connections_of new) d ≡ None → slice_get (connections_of old) d ≡ None

-- Calls were made for the c-th connection, and for no other, of which so many reads at most gave bytes. None was asked for again.
pub record Passes (reads c : ℕ) (old new : Log) : Type 0 where
  pub schedule : new.schedule ≡ old.schedule
  pub piece : new.script.piece ≡ old.script.piece
  pub few_calls : GrowsBy reads old.entries new.entries
  pub moves : Moves c (state_of old) (state_of new)
  pub others : (d : ℕ) → (c == d) ≡ false → StaysAs d old new
  pub unasked : (d : ℕ) → asks_of d new.entries ≡ asks_of d old.entries
  pub timed : is_timed old.entries ≡ true → is_timed new.entries ≡ true

-- what is kept begins with a whole command still, where it did
abbrev pub KeepsWhole : Client → Client → Type 0
KeepsWhole client now = next_of now.kept ≡ More → next_of client.kept ≡ More

-- The c-th connection was looked at so often at most, where this was held of its client. Where the front had talked with all clients before, at each moment, it
-- has with these answers to this one. Where there may be more to do at once, bytes were received or sent, or it was answered; but one look alone may
-- have found nothing but commands in what was kept that get no answer and no reply.
pub record Visits (options : Options) (base looks : ℕ) (client : Client) (answers : List Answered) (now : Client) (becomes : After) (c : ℕ) (old new : Log) : Type 0 where
  pub passes : Passes looks c old new
  pub few_answers : length answers ≤ looks * most_answers options
  pub earns : becomes ≡ Again → (looks ≡ 1 → KeepsWhole client now) → moved c old.entries < moved c new.entries + length answers
  pub talks : (lacking : List ℕ) (all : List Given) → is_timed old.entries ≡ true → Holds options base MOST_UNSENT c old (given_to c all) client
      → TalksThrough options base MOST_UNSENT old.schedule lacking old.entries all
      → TalksThrough options base MOST_UNSENT old.schedule lacking new.entries (all ++ all_to c answers)
      × Becomes options base MOST_UNSENT c new (given_to c all ++ answers) now becomes

-- One look at a connection

-- no more is read of it: the client asked for the end; or it sends no more, and nothing whole is left
abbrev pub leaves_by : Halt → Option Input → Bool
leaves_by Leaves input = true
leaves_by Needs (Some Ended) = true
leaves_by _ _ = false

-- nothing is to be done at once: no more is read, or it waits for its peer
abbrev pub IsAtRest : Halt → Option Input → Type 0
IsAtRest halt input = (leaves_by halt input ≡ true) ⊎ (halt ≡ Needs) × (is_drained input ≡ true)

-- A command that was answered in part was answered further.
pub record GoesFurther (options : Options) (base : ℕ) (client : Client) (answers : List Answered) (replies : List ℕ) (now : Client) (r : Halt × Option Input) (c : ℕ) (old new : Log)
    : Type 0 where
  pub same : new ≡ old
  pub goes : GoesOnTo options base (position_of client) answers [] replies (HaltsAs options base MAX_WAITING_LEN r.0 (position_of now))
  pub few : length replies ≤ MOST_UNSENT
  pub few_answers : length answers ≤ most_answers options
  pub at : AreAt options (second_of new.entries) answers
  pub ends : EndsBy r.1 c new
  pub earns : KeepsWhole client now → IsAtRest r.0 r.1 ⊎ (0 < length answers + length replies)

-- The connection was read once, and what had come was answered, at the second that was told last then.
pub record ReadsOn (options : Options) (base : ℕ) (client : Client) (answers : List Answered) (replies : List ℕ) (now : Client) (r : Halt × Option Input) (c : ℕ) (old new : Log)
    : Type 0 where
  pub first : client.done ≡ 0
  pub bytes : List ℕ
  pub short : length (client.kept ++ bytes) ≤ MAX_WAITING_LEN
  pub reads : Reads c bytes old new
  pub goes : GoesOnTo options base (position_of client) answers [] replies
      (λ received given due. HaltsAs options base MAX_WAITING_LEN r.0 (position_of now) (received ++ bytes) given due)
  pub few : length replies ≤ MOST_UNSENT
  pub few_answers : length answers ≤ most_answers options
  pub at : AreAt options (second_of new.entries) answers
  pub ends : EndsBy r.1 c new
  pub earns : KeepsWhole client now → IsAtRest r.0 r.1 ⊎ (0 < length bytes + length answers + length replies)

-- Either; or the connection is broken, and nothing was answered.
abbrev pub Looks : Options → ℕ → Client → List Answered → List ℕ → Client → Result (Halt × Option Input) Broken → ℕ → Log → Log → Type 0
Looks options base client answers replies now (Ok r) c old new =
    GoesFurther options base client answers replies now r c old new ⊎ ReadsOn options base client answers replies now r c old new
Looks options base client answers replies now (Err broken) c old new =
    (answers ≡ []) × (client.done ≡ 0) × Reads c [] old new × IsIn IsBroken c new

-- Memory lacked at a look

-- A command that was answered in part may have been answered further.
pub record LacksFurther (options : Options) (base : ℕ) (client : Client) (answers : List Answered) (old new : Log) : Type 0 where
  pub same : new ≡ old
  pub spoke : SpokeFrom options base MAX_WAITING_LEN (position_of client) answers
  pub few_answers : length answers ≤ most_answers options
  pub at : AreAt options (second_of new.entries) answers

-- The connection was read once, and what had come may have been answered.
pub record LacksRead (options : Options) (base : ℕ) (client : Client) (answers : List Answered) (c : ℕ) (old new : Log) : Type 0 where
  pub first : client.done ≡ 0
  pub bytes : List ℕ
  pub short : length (client.kept ++ bytes) ≤ MAX_WAITING_LEN
  pub reads : Reads c bytes old new
  pub spoke : SpokeBehind options base MAX_WAITING_LEN (position_of client) bytes answers
  pub few_answers : length answers ≤ most_answers options
  pub at : AreAt options (second_of new.entries) answers

abbrev pub Lacks : Options → ℕ → Client → List Answered → ℕ → Log → Log → Type 0
Lacks options base client answers c old new = LacksFurther options base client answers old new ⊎ LacksRead options base client answers c old new

-- The c-th connection was looked at so often at most, and memory lacked for it. At each moment the front had talked with all clients all the same.
pub record VisitLacks (options : Options) (base looks : ℕ) (client : Client) (answers : List Answered) (c : ℕ) (old new : Log) : Type 0 where
  pub passes : Passes looks c old new
  pub few_answers : length answers ≤ looks * most_answers options
  pub talks : (lacking : List ℕ) (all : List Given) → is_timed old.entries ≡ true → IsAmong c lacking → Holds options base MOST_UNSENT c old (given_to c all) client
      → TalksThrough options base MOST_UNSENT old.schedule lacking old.entries all
      → TalksThrough options base MOST_UNSENT old.schedule lacking new.entries (all ++ all_to c answers)

-- so many bytes were kept, and these were read behind them
abbrev pub filled_bytes : ℕ → List ℕ → Result (ℕ × Option Input) Broken → List ℕ
filled_bytes had room (Ok filled) = drop had (take filled.0 room)
filled_bytes had room (Err broken) = []
