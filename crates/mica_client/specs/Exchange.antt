-- The exchange with a server: the batches in order, each sent once, when all tickets of the one before it are answered.
use Rattle.std.specs.Prelude.{◌≡◌, ◌⊎◌, not, Bool, true, false, ℕ, List, [], ◌∷◌, ◌++◌, map, Option, Some, None, Result, Ok, Err}
use Rattle.std.specs.List.{list_any}
use Rattle.outside.specs.Traffic.{Datagram}
use Rattle.mica_trace.specs.declared.line.TraceLine.{TraceLine}
use Rattle.mica_trace.specs.declared.report.Line.{Line}
use Rattle.batch_packets.specs.declared.batch.Request.{Request}
use Rattle.batch_packets.specs.declared.batch.Batch.{Batch}
use Rattle.batch_packets.specs.declared.replies.Replies.{Replies}
use Rattle.batch_packets.specs.BatchGrammar.{batch_text}
use Rattle.batch_packets.specs.ReplyGrammar.{SpellsReplies}
use Rattle.mica_client.specs.declared.options.TheConstants.{VERSION}
use Rattle.server_words.specs.declared.ask_options.AskOptions.{AskOptions}
use Rattle.mica_client.specs.declared.fault.AskFault.{AskFault}
use Rattle.mica_client.specs.declared.fault.AskFault.TheVariants.{Unread, Stranger, Double, Wrong, Lost, Link, NoMemory}
use Rattle.mica_client.specs.Talk.{Passed, sent, received, Talk, Went}
use Rattle.mica_client.specs.Batches.{Ask, asks_of}
use Rattle.mica_client.specs.Answers.{KnownLines, unanswered, is_answered, after_replies}

-- where an exchange stands: the batches that are not sent, the one that was sent last, and the answers so far
pub record Standing : Type 0 where
  pub left : List Ask
  pub asked : Option Batch
  pub answers : KnownLines

-- before any datagram
abbrev pub start : AskOptions → List TraceLine → Standing
start options trace = record { left = asks_of options trace; asked = None; answers = unanswered trace }

-- some request has no answer
abbrev pub lacks_answer : KnownLines → List Request → Bool
lacks_answer answers requests = list_any (λ request. not (is_answered answers request.ticket)) requests

abbrev pub waits_for : Option Batch → KnownLines → Bool
waits_for None answers = false
waits_for (Some batch) answers = lacks_answer answers batch.requests

-- a ticket of the batch that was sent last waits
abbrev pub waits : Standing → Bool
waits standing = waits_for standing.asked standing.answers

-- the next batch was sent, to its port, when no ticket waited
pub record SendsNext (before : Standing) (port : ℕ) (bytes : Datagram) (after : Standing) : Type 0 where
  pub ask : Ask
  pub next : before.left ≡ ask ∷ after.left
  pub in_turn : waits before ≡ false
  pub port_is : port ≡ ask.port
  pub text : bytes ≡ batch_text ask.batch
  pub asked : after.asked ≡ Some ask.batch
  pub answers : after.answers ≡ before.answers

-- the bytes are the text of replies in the client's version
pub record SpellsAnswers (bytes : Datagram) (replies : Replies) : Type 0 where
  pub spelled : SpellsReplies bytes replies
  pub version : replies.version ≡ VERSION

-- while a ticket of the batch waited, a datagram of replies was received, each of which answered one that had no answer
pub record TakesReplies (batch : Batch) (before : KnownLines) (bytes : Datagram) (after : KnownLines) : Type 0 where
  pub waited : lacks_answer before batch.requests ≡ true
  pub replies : Replies
  pub spelled : SpellsAnswers bytes replies
  pub made : after_replies batch replies.number replies.replies before ≡ Ok after

-- while a ticket of the batch waited, a datagram of replies was received, and the first of them that shows anything shows this fault
pub record ShowsFault (batch : Batch) (before : KnownLines) (bytes : Datagram) (fault : AskFault) : Type 0 where
  pub waited : lacks_answer before batch.requests ≡ true
  pub replies : Replies
  pub spelled : SpellsAnswers bytes replies
  pub shown : after_replies batch replies.number replies.replies before ≡ Err fault

-- the datagram is no replies datagram of the client's version
abbrev pub IsUnread : Datagram → Type 0
IsUnread bytes = (replies : Replies) → ¬ (SpellsAnswers bytes replies)

-- a datagram of answers was received
pub record TakesAnswers (before : Standing) (bytes : Datagram) (after : Standing) : Type 0 where
  pub batch : Batch
  pub asked : before.asked ≡ Some batch
  pub taken : TakesReplies batch before.answers bytes after.answers
  pub left : after.left ≡ before.left
  pub same : after.asked ≡ before.asked

-- one datagram passed
abbrev pub Steps : Standing → Passed → Standing → Type 0
Steps before (sent port bytes faults) after = SendsNext before port bytes after
Steps before (received bytes faults) after = TakesAnswers before bytes after

-- these datagrams passed, one after another
abbrev pub Runs : Standing → List Passed → Standing → Type 0
Runs before [] after = after ≡ before
Runs before (one ∷ more) after = (between : Standing) × Steps before one between × Runs between more after

-- all batches were sent, and each ticket is answered
pub record IsWhole (standing : Standing) : Type 0 where
  pub all_sent : standing.left ≡ []
  pub answered : waits standing ≡ false

-- an exchange that came so far
abbrev pub ComesTo : Standing → List Passed → (Standing → Type 0) → Type 0
ComesTo before passed fact = (at : Standing) × Runs before passed at × fact at

-- The exchange came to where a ticket waits, and the datagram that was received then is the last.
pub record StopsAt (before : Standing) (passed : List Passed) (shows : Batch → KnownLines → Datagram → Type 0) : Type 0 where
  pub earlier : List Passed
  pub at : Standing
  pub runs : Runs before earlier at
  pub batch : Batch
  pub asked : at.asked ≡ Some batch
  pub waited : lacks_answer at.answers batch.requests ≡ true
  pub bytes : Datagram
  pub faults : ℕ
  pub last : passed ≡ earlier ++ received bytes faults ∷ []
  pub shown : shows batch at.answers bytes

-- The cause of a fault in the datagrams that passed and those that are left then. At a fault of the link the exchange is not whole, so
-- at each moment before it a batch was not sent or a ticket waited: no count of faults beside a datagram need be asked.
-- When memory ran out, the last datagram may not have been read.
abbrev pub IsCauseOf : AskFault → Standing → List Passed → List Datagram → Type 0
IsCauseOf Unread before passed left = StopsAt before passed (λ batch answers bytes. IsUnread bytes)
IsCauseOf Lost before passed left = ComesTo before passed (λ at. (waits at ≡ true) × (left ≡ []))
IsCauseOf Link before passed left = ComesTo before passed (λ at. ¬ (IsWhole at))
IsCauseOf NoMemory before passed left =
    ComesTo before passed (λ at. Unit {0}) ⊎ StopsAt before passed (λ batch answers bytes. Unit {0})
IsCauseOf fault before passed left = StopsAt before passed (λ batch answers bytes. ShowsFault batch answers bytes fault)

-- what the datagrams that passed, and those that are left then, say of a report or of a fault
abbrev pub MeansForAsk : Result (List Line) AskFault → Standing → List Passed → List Datagram → Type 0
MeansForAsk (Ok report) before passed left =
    ComesTo before passed (λ at. IsWhole at × (at.answers ≡ map (λ line. Some line) report))
MeansForAsk (Err fault) before passed left = IsCauseOf fault before passed left

-- the end of the link was met
abbrev pub is_lost_fault : AskFault → Bool
is_lost_fault Lost = true
is_lost_fault _ = false

abbrev pub is_lost : {T : Type 0} → Result T AskFault → Bool
is_lost (Ok value) = false
is_lost (Err fault) = is_lost_fault fault

-- where it stands with these parts
abbrev pub standing_at : List Ask → Option Batch → KnownLines → Standing
standing_at left asked answers = record { left = left; asked = asked; answers = answers }

-- a fault of the reading of a datagram
abbrev pub IsOfReading : AskFault → Type 0
IsOfReading Unread = Unit {0}
IsOfReading NoMemory = Unit {0}
IsOfReading fault = ⊥

-- one datagram was received, with this fact of it
pub record Receives (fact : Datagram → Type 0) (before after : Talk) : Type 0 where
  pub bytes : Datagram
  pub faults : ℕ
  pub went : Went (received bytes faults ∷ []) before after
  pub fact_of : fact bytes

-- what a fault says of a call that receives and reads one datagram
abbrev pub StopsReading : AskFault → Talk → Talk → Type 0
StopsReading Unread before after = Receives IsUnread before after
StopsReading NoMemory before after = Receives (λ bytes. Unit {0}) before after
StopsReading Lost before after = (after ≡ before) × (before.left ≡ [])
StopsReading Link before after = after ≡ before
StopsReading fault before after = ⊥

-- what a fault says of a call that receives one datagram and takes its replies, while the batch waits
abbrev pub StopsOne : AskFault → Batch → KnownLines → Talk → Talk → Type 0
StopsOne (Stranger ticket) batch answers before after = Receives (λ bytes. ShowsFault batch answers bytes (Stranger ticket)) before after
StopsOne (Double ticket) batch answers before after = Receives (λ bytes. ShowsFault batch answers bytes (Double ticket)) before after
StopsOne (Wrong ticket) batch answers before after = Receives (λ bytes. ShowsFault batch answers bytes (Wrong ticket)) before after
StopsOne fault batch answers before after = StopsReading fault before after

-- from before the batch was sent until there are these answers, whatever follows and whatever was asked before
pub record Asks (ask : Ask) (old new : KnownLines) (between : List Passed) (left : List Datagram) : Type 0 where
  pub runs : (later : List Ask) (asked : Option Batch) → waits_for asked old ≡ false
      → Runs (standing_at (ask ∷ later) asked old) between (standing_at later (Some ask.batch) new)

-- from before the batch was sent until a fault came, whatever was asked before
pub record StopsAsking (fault : AskFault) (ask : Ask) (old : KnownLines) (between : List Passed) (left : List Datagram) : Type 0 where
  pub cause : (later : List Ask) (asked : Option Batch) → waits_for asked old ≡ false
      → IsCauseOf fault (standing_at (ask ∷ later) asked old) between left

-- all these batches were sent and answered
abbrev pub AsksAll : List Ask → KnownLines → KnownLines → List Passed → List Datagram → Type 0
AsksAll asks old new between left = ComesTo (standing_at asks None old) between (λ at. IsWhole at × (at.answers ≡ new))

-- what is sent for a batch
abbrev pub sending : Ask → ℕ × Datagram
sending ask = (ask.port, batch_text ask.batch)
