-- What the thread of a share and its clients said to each other.
use Rattle.std.specs.Prelude.{◌≡◌, ◌≢◌, ◌≤◌, ◌<◌, ◌+◌, ◌-◌, ◌==◌, ◌&&◌, ◌⊎◌, ℕ, zero, suc, Bool, true, false, List, [], ◌∷◌, ◌++◌, length, take, drop, map, filter, filter_map, flat_map, slice_get, nat_lt, AllPairs, Option, Some, None, is_some, IfSome, if◌then◌else◌}
use Rattle.std.specs.List.{AllByRecursion, list_any, list_all}
use Rattle.memcached_requests.specs.declared.request.Next.TheVariants.{More}
use Rattle.memcached_requests.specs.Next.{next_of}
use Rattle.memcached_requests.specs.Requests.{len_of, is_last}
use Rattle.connections.specs.declared.schedule.Step.{Step}
use Rattle.connections.specs.declared.schedule.Step.TheVariants.{Opens, TurnsAway, Reports, Happens}
use Rattle.connections.specs.Connection.{Connection}
use Rattle.connections.specs.State.{Entry, opened, reported, turned_away, received, closed, state_after}
use Rattle.connections.specs.Log.{Log, state_of, connections_of, received_of, sent_of, second_of as told_second}
use Rattle.command_answers.specs.Exchange.{is_flush_all}
use Rattle.memcached_page.specs.Course.{Deed, carried, flushed, went, lost, moved, Done}
use Rattle.memcached_page.specs.Exchange.{Exchange, CarryOut, is_done, due_to}

-- One client

-- The bytes begin with what was said, and it was carried out as far as it was. Memory lacks for none of it yet.
pub record StandsFirst (bytes : List ℕ) (e : Exchange) : Type 0 where
  pub next : next_of bytes ≡ e.next
  pub some : e.next ≢ More
  pub carried_out : CarryOut (is_flush_all e.next) e.next e.deeds
  pub held : e.lacked ≡ false

-- nothing stands behind it; or all of it is carried out, and it does not end the connection
abbrev pub MayBeFollowed : ℕ → Exchange → List Exchange → Type 0
MayBeFollowed parts e later = (later ≡ []) ⊎ ((is_done parts e ≡ true) × (is_last e.next ≡ false))

-- The bytes are these exchanges, one after another, and the rest.
abbrev pub ReadAs : ℕ → List ℕ → List Exchange → List ℕ → Type 0
ReadAs parts bytes [] rest = rest ≡ bytes
ReadAs parts bytes (e ∷ later) rest = StandsFirst bytes e × MayBeFollowed parts e later × ReadAs parts (drop (len_of e.next) bytes) later rest

abbrev pub due_in_all : ℕ → List Exchange → List ℕ
due_in_all parts said = flat_map (due_to parts) said

-- What was received of a client is these exchanges, carried out by these deeds. What was sent to it is a beginning of what is due to them.
pub record Talks (parts : ℕ) (received sent : List ℕ) (deeds : List Deed) : Type 0 where
  pub said : List Exchange
  pub rest : List ℕ
  pub reads : ReadAs parts received said rest
  pub done : flat_map (λ e. e.deeds) said ≡ deeds
  pub unsent : List ℕ
  pub begins : due_in_all parts said ≡ sent ++ unsent

-- the client asked for the end, or its line was too long: that is the last thing that was said
abbrev pub wants_end : List Exchange → Bool
wants_end said = list_any (λ e. is_last e.next) said

-- all that was said is carried out, and the rest is nothing whole
abbrev pub IsAllDone : ℕ → List Exchange → List ℕ → Type 0
IsAllDone parts said rest = (list_all (is_done parts) said ≡ true) × (wants_end said ≡ false) × (next_of rest ≡ More)

-- Why a connection is closed. It is broken; or all that is due was sent, and the client asked for the end, or sends no more and all that it said is carried out.
pub data ClosesFor (parts : ℕ) (connection : Connection) (sent : List ℕ) (said : List Exchange) (rest : List ℕ) : Type 0 where
  broke : connection.is_broken ≡ true → ClosesFor parts connection sent said rest
  left : sent ≡ due_in_all parts said → wants_end said ≡ true → ClosesFor parts connection sent said rest
  ended : sent ≡ due_in_all parts said → connection.has_ended ≡ true → connection.waiting ≡ [] → IsAllDone parts said rest → ClosesFor parts connection sent said rest

-- What one waits for that is not closed: that its client takes more of what is due; or that it says more, where all that is due was sent.
pub data RestsFor (parts : ℕ) (connection : Connection) (sent : List ℕ) (said : List Exchange) (rest : List ℕ) : Type 0 where
  shut : length sent < length (due_in_all parts said) → connection.window ≡ 0 → RestsFor parts connection sent said rest
  idle : sent ≡ due_in_all parts said → connection.waiting ≡ [] → connection.has_ended ≡ false → IsAllDone parts said rest → RestsFor parts connection sent said rest

-- All clients of a share

-- What its thread did: its deeds, in order; how many of those that its clients asked for were done by the n-th moment of its log; and the connections that memory lacked
-- for.
pub record Story : Type 0 where
  pub deeds : List Done
  pub reached : ℕ → ℕ
  pub lacking : List ℕ

-- what calls had done by the n-th moment of a log, the last of them first
abbrev pub calls_by : Log → ℕ → List Entry
calls_by log n = drop (length log.entries - n) log.entries

abbrev pub is_for : ℕ → Option ℕ → Bool
is_for c None = false
is_for c (Some client) = client == c

-- what was done for a client, in order
abbrev pub done_for : ℕ → List Done → List Deed
done_for c deeds = map (λ done. done.deed) (filter (λ done. is_for c done.client) deeds)

-- what clients asked for; the rest is done for none
abbrev pub asked_in : Story → List Done
asked_in story = filter (λ done. is_some done.client) story.deeds

-- the talk with the c-th client, at the n-th moment
abbrev pub TalkAt : ℕ → Log → Story → ℕ → ℕ → Type 0
TalkAt parts log story n c = Talks parts (received_of c (calls_by log n)) (sent_of c (calls_by log n)) (done_for c (take (story.reached n) (asked_in story)))

-- At each moment, as the next call is made, it had talked so with each client. In the end all that they asked for is done.
pub record TalksThrough (parts : ℕ) (log : Log) (story : Story) : Type 0 where
  pub rises : (n m : ℕ) → n ≤ m → m ≤ length log.entries → story.reached n ≤ story.reached m
  pub ends : story.reached (length log.entries) ≡ length (asked_in story)
  pub talks : (n c : ℕ) → n ≤ length log.entries → TalkAt parts log story n c

-- A connection is closed for a cause, or memory lacked for it, or its share's part of what may be kept of all clients.
abbrev pub ClosesForCause : ℕ → Log → Story → Type 0
ClosesForCause parts log story = (n c : ℕ) → n < length log.entries → calls_by log (n + 1) ≡ closed c ∷ calls_by log n
    → (list_any (λ d. d == c) story.lacking ≡ true)
    ⊎ IfSome (slice_get (state_after log.schedule (calls_by log n)).connections c) (λ connection.
    (talk : TalkAt parts log story n c) × ClosesFor parts connection (sent_of c (calls_by log n)) talk.said talk.rest)

-- a step is a report of the c-th connection
abbrev pub reports : ℕ → Step → Bool
reports c (Opens window bytes) = false
reports c TurnsAway = false
reports c (Reports d change) = d == c
reports c (Happens d change) = d == c

-- it is closed, or whole and waits
abbrev pub IsAtRest : ℕ → Log → Story → ℕ → Connection → Type 0
IsAtRest parts log story c connection =
    (connection.is_closed ≡ true)
    ⊎ ((connection.is_broken ≡ false)
    × ((talk : TalkAt parts log story (length log.entries) c) × RestsFor parts connection (sent_of c (calls_by log (length log.entries))) talk.said talk.rest))

-- In the end each connection is settled, or a report of it is to come, where a call moves some bytes.
abbrev pub SettlesAll : ℕ → Log → Story → Type 0
SettlesAll parts log story = 0 < log.script.piece → (c : ℕ) → IfSome (slice_get (connections_of log) c) (λ connection.
    (list_any (reports c) (state_of log).later ≡ true) ⊎ IsAtRest parts log story c connection)

-- The second of a deed. A flush at once is of none; that of another is told of its first part, for all.
abbrev pub second_of : Deed → Option ℕ
second_of (carried second number asked says) = Some second
second_of (flushed part number flush took) = if part == 0 && nat_lt 0 flush.due then Some flush.asked else None
second_of (went second key) = Some second
second_of (lost key) = None
second_of (moved key) = None

-- what was done for clients from the moment before to the n-th
abbrev pub done_at : Story → ℕ → List Done
done_at story zero = take (story.reached 0) (asked_in story)
done_at story (suc n) = drop (story.reached n) (take (story.reached (suc n)) (asked_in story))

-- a second that the log told at some moment
abbrev pub IsTold : Log → ℕ → Type 0
IsTold log second = (n : ℕ) × (n ≤ length log.entries) × (second ≡ told_second (calls_by log n))

-- the last call gave no bytes and no report, or the second behind them was told since
abbrev pub is_timed : List Entry → Bool
is_timed (opened number ∷ entries) = false
is_timed (reported number ∷ entries) = false
is_timed (turned_away ∷ entries) = false
is_timed (received c bytes ∷ entries) = false
is_timed _ = true

-- At each moment a share does what its clients ask at the second that its log told last, and nothing before it was told behind what came. So a command is carried out at a second
-- that is not before its bytes came. An item goes by itself at a second that the log told, too; and from deed to deed these seconds never fall.
pub record TellsSeconds (log : Log) (story : Story) : Type 0 where
  pub at : (n : ℕ) → n ≤ length log.entries → AllByRecursion (λ done. IfSome (second_of done.deed) (λ second. second ≡ told_second (calls_by log n))) (done_at story n)
  pub timed : (n : ℕ) → n ≤ length log.entries → is_timed (calls_by log n) ≡ false → done_at story n ≡ []
  pub told : AllByRecursion (λ done. IfSome (second_of done.deed) (IsTold log)) story.deeds
  pub never_fall : AllPairs (λ earlier later. earlier ≤ later) (filter_map (λ done. second_of done.deed) story.deeds)
