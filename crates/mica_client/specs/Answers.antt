-- What replies make of the lines that a report is to have.
use Rattle.std.specs.Prelude.{◌≡◌, ◌≤◌, ◌<◌, true, ℕ, ◌-◌, ◌==◌, ◌&&◌, Bool, List, [], ◌∷◌, map, length, slice_get, slice_set, nat_le, find, count_by, is_some, is_none, IfSome, if◌then◌else◌, Option, Some, None, option_map, option_and_then, Result, Ok, Err}
use Rattle.std.specs.List.{All, AllPairs, list_all, AllZip, AllByRecursion}
use Rattle.partition_model.specs.declared.write.Op.{Op}
use Rattle.partition_model.specs.declared.write.Op.TheVariants.{Put as PutOp, Add as AddOp, Touch as TouchOp, Del as DelOp}
use Rattle.partition_model.specs.declared.write.Outcome.{Outcome}
use Rattle.partition_model.specs.declared.write.Outcome.TheVariants.{Stored, Deleted, Absent, Touched, FullSpare, FullBlock, Worn, Exists}
use Rattle.mica_trace.specs.declared.line.TraceLine.{TraceLine}
use Rattle.mica_trace.specs.declared.report.Line.{Line}
use Rattle.mica_trace.specs.declared.report.Line.TheVariants.{Wrote, Hit, Miss, Sync}
use Rattle.mica_trace.specs.TraceGrammar.{is_sync}
use Rattle.mica_trace.specs.LawfulReport.{IsLineFor}
use Rattle.batch_packets.specs.declared.batch.Want.{Want}
use Rattle.batch_packets.specs.declared.batch.Want.TheVariants.{Put, Add, Del, Touch, Get}
use Rattle.batch_packets.specs.declared.batch.Request.{Request}
use Rattle.batch_packets.specs.declared.batch.Batch.{Batch}
use Rattle.batch_packets.specs.declared.status.Status.{Status}
use Rattle.batch_packets.specs.declared.status.Status.TheVariants as status
use Rattle.batch_packets.specs.declared.replies.Reply.{Reply}
use Rattle.mica_client.specs.declared.fault.AskFault.{AskFault}
use Rattle.mica_client.specs.Batches.{Group, request_of}
use Rattle.mica_client.specs.declared.fault.AskFault.TheVariants.{Stranger, Double, Wrong}

-- for each line of a trace the line of the report, where it is known
abbrev pub KnownLines : Type 0
KnownLines = List (Option Line)

-- before any reply: a sync needs none
abbrev pub unanswered : List TraceLine → KnownLines
unanswered trace = map (λ line. if is_sync line then Some Sync else None) trace

-- the answers that these lines are, where each test says whether one is known
abbrev pub answers_of : List Bool → List Line → KnownLines
answers_of [] lines = []
answers_of (known ∷ more) [] = []
answers_of (known ∷ more) (line ∷ lines) = (if known then Some line else None) ∷ answers_of more lines

-- the answer that a ticket has; tickets count from 1
abbrev pub answer_to : KnownLines → ℕ → Option Line
answer_to answers ticket = option_and_then (λ answer. answer) (slice_get answers (ticket - 1))

abbrev pub is_answered : KnownLines → ℕ → Bool
is_answered answers ticket = is_some (answer_to answers ticket)

-- the ticket is that of one of so many lines
abbrev pub HasTicketIn : ℕ → Request → Type 0
HasTicketIn lines request = (1 ≤ request.ticket) × (request.ticket ≤ lines)

-- each ticket is below those of the later requests
abbrev pub TicketsRise : List Request → Type 0
TicketsRise requests = AllPairs (λ one later. one.ticket < later.ticket) requests

-- the tickets are those of so many lines, and rise
pub record HasTickets (lines : ℕ) (requests : List Request) : Type 0 where
  pub within : All (HasTicketIn lines) requests
  pub rise : TicketsRise requests

abbrev pub AnswerIsKnown : Option Line → Type 0
AnswerIsKnown answer = is_some answer ≡ true

-- a byte that a value of a trace may have
abbrev pub is_printable : ℕ → Bool
is_printable b = nat_le 32 b && nat_le b 126

-- the line of a get's status, stamp and value, where it has one
abbrev pub line_got : Status → ℕ → List ℕ → Option Line
line_got status.Hit stamp value = if list_all is_printable value then Some (Hit stamp value) else None
line_got status.Miss stamp value = Some (Miss stamp)
line_got status stamp value = None

-- the line of a get's reply
abbrev pub line_of_get : Reply → Option Line
line_of_get reply = line_got reply.status reply.stamp reply.value

-- the outcome of a put's reply, where it has one
abbrev pub outcome_of_put : Status → Option Outcome
outcome_of_put status.Stored = Some Stored
outcome_of_put status.FullSpare = Some FullSpare
outcome_of_put status.FullBlock = Some FullBlock
outcome_of_put status.Worn = Some Worn
outcome_of_put status = None

-- the outcome of an add's reply, where it has one: that of a put, or that there was a value
abbrev pub outcome_of_add : Status → Option Outcome
outcome_of_add status.Exists = Some Exists
outcome_of_add status = outcome_of_put status

-- the outcome of a touch's reply, where it has one
abbrev pub outcome_of_touch : Status → Option Outcome
outcome_of_touch status.Touched = Some Touched
outcome_of_touch status.Absent = Some Absent
outcome_of_touch status.Worn = Some Worn
outcome_of_touch status = None

-- the outcome of a delete's reply, where it has one
abbrev pub outcome_of_del : Status → Option Outcome
outcome_of_del status.Deleted = Some Deleted
outcome_of_del status.Absent = Some Absent
outcome_of_del status.Worn = Some Worn
outcome_of_del status = None

abbrev pub wrote : Op → ℕ → Outcome → Line
wrote op stamp outcome = Wrote op outcome stamp

-- the line that a reply means, where its status is one of the operation's
abbrev pub line_of : Want → Reply → Option Line
line_of Get reply = line_of_get reply
line_of Put reply = option_map (wrote PutOp reply.stamp) (outcome_of_put reply.status)
line_of Add reply = option_map (wrote AddOp reply.stamp) (outcome_of_add reply.status)
line_of Touch reply = option_map (wrote TouchOp reply.stamp) (outcome_of_touch reply.status)
line_of Del reply = option_map (wrote DelOp reply.stamp) (outcome_of_del reply.status)

-- what the request with this ticket asks for
abbrev pub want_at : List Request → ℕ → Option Want
want_at requests ticket = option_map (λ request. request.want) (find (λ request. request.ticket == ticket) requests)

-- the line is the answer to its ticket, where the reply means one
abbrev pub by_line : Option Line → Reply → KnownLines → Result KnownLines AskFault
by_line None reply answers = Err (Wrong reply.ticket)
by_line (Some line) reply answers = Ok (slice_set answers (reply.ticket - 1) (Some line))

-- what a reply makes of the answers, where its ticket is one of the batch
abbrev pub by_want : Option Want → Reply → KnownLines → Result KnownLines AskFault
by_want None reply answers = Err (Stranger reply.ticket)
by_want (Some want) reply answers =
    if is_answered answers reply.ticket then Err (Double reply.ticket) else by_line (line_of want reply) reply answers

-- what a reply in a datagram of this number makes of the answers while the batch waits, or what it shows
abbrev pub after_one : Batch → ℕ → Reply → KnownLines → Result KnownLines AskFault
after_one batch number reply answers =
    if number == batch.number then by_want (want_at batch.requests reply.ticket) reply answers
    else Err (Stranger reply.ticket)

-- a fault that a reply shows
abbrev pub IsOfReply : AskFault → Type 0
IsOfReply (Stranger ticket) = Unit {0}
IsOfReply (Double ticket) = Unit {0}
IsOfReply (Wrong ticket) = Unit {0}
IsOfReply fault = ⊥

-- the second, which goes on with the answers, where the first shows nothing
abbrev pub go_on : Result KnownLines AskFault → (KnownLines → Result KnownLines AskFault) → Result KnownLines AskFault
go_on (Ok answers) next = next answers
go_on (Err fault) next = Err fault

-- what the replies of a datagram make of the answers, or what the first of them shows that shows anything
abbrev pub after_replies : Batch → ℕ → List Reply → KnownLines → Result KnownLines AskFault
after_replies batch number [] answers = Ok answers
after_replies batch number (reply ∷ replies) answers =
    go_on (after_one batch number reply answers) (after_replies batch number replies)

-- each answer that is known is a line for the line of the trace
abbrev pub AreFor : List TraceLine → KnownLines → Type 0
AreFor trace answers = AllZip (λ line answer. IfSome answer (IsLineFor line)) trace answers

-- the request is that of a line of the trace
pub record IsOfTrace (trace : List TraceLine) (request : Request) : Type 0 where
  pub place : ℕ
  pub line : TraceLine
  pub at : slice_get trace place ≡ Some line
  pub is : request_of place line ≡ Some request

-- how many answers are not known
abbrev pub open_answers : KnownLines → ℕ
open_answers answers = count_by (λ answer. is_none answer) answers

-- what answers to a batch make of the answers: none that was known is lost
pub record KeepsAnswers (requests : List Request) (old new : KnownLines) : Type 0 where
  pub len : length new ≡ length old
  pub known : (ticket : ℕ) → is_answered old ticket ≡ true → is_answered new ticket ≡ true
  pub lines : (trace : List TraceLine) → AllByRecursion (IsOfTrace trace) requests → AreFor trace old → AreFor trace new

-- what answers to all batches make of the answers
pub record KeepsAll (groups : List Group) (old new : KnownLines) : Type 0 where
  pub len : length new ≡ length old
  pub known : (ticket : ℕ) → is_answered old ticket ≡ true → is_answered new ticket ≡ true
  pub lines : (trace : List TraceLine) → AllByRecursion (λ group. AllByRecursion (IsOfTrace trace) group.requests) groups
      → AreFor trace old → AreFor trace new
