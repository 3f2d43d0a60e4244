-- What the replies that were received say of a report: each ticket has one reply, which is the line of that number.
use Rattle.std.specs.Prelude.{◌≡◌, ◌≤◌, ◌==◌, ◌+◌, ℕ, List, [], ◌∷◌, ◌++◌, length, filter, slice_get, Option, Some, None, Result, Err}
use Rattle.std.specs.List.{AllByRecursion}
use Rattle.mica_trace.specs.declared.line.TraceLine.{TraceLine}
use Rattle.mica_trace.specs.declared.report.Line.{Line}
use Rattle.mica_trace.specs.declared.report.Line.TheVariants.{Sync}
use Rattle.batch_packets.specs.declared.batch.Want.{Want}
use Rattle.batch_packets.specs.declared.replies.Reply.{Reply}
use Rattle.batch_packets.specs.declared.replies.Replies.{Replies}
use Rattle.mica_client.specs.declared.fault.AskFault.{AskFault}
use Rattle.mica_client.specs.declared.fault.AskFault.TheVariants.{Lost, Link}
use Rattle.mica_client.specs.Talk.{Passed, sent, received}
use Rattle.mica_client.specs.Batches.{want_of}
use Rattle.mica_client.specs.Answers.{line_of}
use Rattle.mica_client.specs.Exchange.{SpellsAnswers}

-- each datagram that was received is one of replies, and these are all of them, in order
abbrev pub RepliesIn : List Passed → List Reply → Type 0
RepliesIn [] replies = replies ≡ []
RepliesIn (sent port bytes faults ∷ more) replies = RepliesIn more replies
RepliesIn (received bytes faults ∷ more) replies =
    (own : Replies) × (later : List Reply) × SpellsAnswers bytes own × RepliesIn more later × (replies ≡ own.replies ++ later)

-- the replies with this ticket
abbrev pub with_ticket : ℕ → List Reply → List Reply
with_ticket ticket replies = filter (λ reply. reply.ticket == ticket) replies

-- What was asked for has one reply, and the line is what that means. Where nothing was asked for there is none, and the line is a sync.
abbrev pub IsReplied : Option Want → List Reply → Line → Type 0
IsReplied None replies printed = (replies ≡ []) × (printed ≡ Sync)
IsReplied (Some want) replies printed = (reply : Reply) × (replies ≡ reply ∷ []) × (line_of want reply ≡ Some printed)

-- line n of the report, from 1, is that of the one reply with the ticket n; no reply has another ticket
pub record IsRepliedOnce (trace : List TraceLine) (report : List Line) (replies : List Reply) : Type 0 where
  pub lines : (n : ℕ) (line : TraceLine) → slice_get trace n ≡ Some line
      → (printed : Line) × (slice_get report n ≡ Some printed) × IsReplied (want_of line.op) (with_ticket (n + 1) replies) printed
  pub tickets : AllByRecursion (λ reply. (1 ≤ reply.ticket) × (reply.ticket ≤ length trace)) replies

-- the answer, but for whether a link failed or came to its end where the exchange broke off
abbrev pub broken_off : Result (List Line) AskFault → Result (List Line) AskFault
broken_off (Err Link) = Err Lost
broken_off answer = answer
