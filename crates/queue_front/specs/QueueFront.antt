-- What contracts see of a front before owners in other threads.
use Rattle.std.specs.Prelude.{◌≡◌, ℕ, ◌+◌, ◌<◌, ◌≤◌, true, false, List, [], ◌∷◌, ◌++◌, All, map, length, sum_by, slice_get, Option, Some, None}
use Rattle.std.specs.List.{list_any}
use Rattle.partition_model.specs.declared.options.Options.{Options}
use Rattle.partition_model.specs.declared.write.Answer.{Answer}
use Rattle.partition_model.specs.declared.write.Outcome.{Outcome}
use Rattle.partition_model.specs.declared.write.Write.{Write}
use Rattle.partition_model.specs.Answer.{IsAnswer}
use Rattle.partition_model.specs.Write.{is_accepted}
use Rattle.partition_model.specs.Run.{RunStep}
use Rattle.partition_model.specs.Options.{IsValid}
use Rattle.partition_words.specs.Shape.{shape_of}
use Rattle.partition_table.specs.Seats.{reader_state, reader_home, note_state}
use Rattle.owner_queue.specs.declared.ack.Ack.{Ack}
use Rattle.owner_queue.specs.declared.message.Job.{Job}
use Rattle.owner_queue.specs.declared.message.Message.TheVariants as message
use Rattle.owner_queue.specs.Messages.{ticket_of, is_end}
use Rattle.owner_queue.specs.JobEnds.{outbox}
use Rattle.owner_queue.specs.Acked.{IsAcked}
use Rattle.owner_queue.specs.AckOrder.{AckMayFollow}
use Rattle.owner_queue.specs.AckEnds.{AckBox, ack_box}
use Rattle.owner_queue.specs.Worked.{Acknowledged}
use Rattle.queue_front.specs.declared.queue_front.FrontPart.{FrontPart}
use Rattle.queue_front.specs.QueueStand.{QueueStand}
use Rattle.fronts.specs.Session.{Told, Session, Sessions, Writes, Reads}

-- the options, the front's number in each queue of jobs, the ticket of its next job, how many writes it may still be given, and what it
-- holds of each partition
pub record QueueView : Type 0 where
  pub options : Options
  pub number : ℕ
  pub next : ℕ
  pub left : ℕ
  pub parts : List FrontPart

-- what contracts see of a front, of its parts
abbrev pub queue_view : Options → ℕ → ℕ → ℕ → List FrontPart → QueueView
queue_view options number next left parts =
    record { options = options; number = number; next = next; left = left; parts = parts }

-- the seat is of the table whose notes the acknowledgements have
pub record IsOfOneTable (part : FrontPart) : Type 0 where
  pub home : part.acks.table ≡ reader_home part.seat
  pub shape : part.acks.shape ≡ (reader_state part.seat).shape

-- Of one partition: the seat, the queue of jobs and that of acknowledgements belong together. Of the front only jobs were sent there, under
-- tickets below the next one.
pub record IsFrontPart (front : QueueView) (part : FrontPart) : Type 0 where
  pub shape : (reader_state part.seat).shape ≡ shape_of front.options
  pub whole : IsOfOneTable part
  pub sender : part.jobs.number ≡ front.number
  pub most : part.jobs.jobs ≡ front.next + front.left
  pub unended : list_any is_end part.jobs.sent ≡ false
  pub tickets : All (λ m. ticket_of m < front.next) part.jobs.sent

-- A front has a part of each partition, and each job that it sent took one from what it may be given.
pub record IsQueueFront (front : QueueView) : Type 0 where
  pub valid : IsValid front.options
  pub many : length front.parts ≡ front.options.partitions
  pub each : All (IsFrontPart front) front.parts
  pub sent : sum_by (λ part. length part.jobs.sent) front.parts ≡ front.next
  pub few : front.next + front.left < 18446744073709551616

-- a part that a front begins with
pub record IsNewPart (options : Options) (number most : ℕ) (part : FrontPart) : Type 0 where
  pub shape : (reader_state part.seat).shape ≡ shape_of options
  pub whole : IsOfOneTable part
  pub unanswered : part.last ≡ 0
  pub fresh : part.jobs ≡ outbox part.jobs.queue number most []

-- the part once the front's end was sent to the owner
abbrev pub ended_part : ℕ → FrontPart → FrontPart
ended_part number part = record part {
  jobs = outbox part.jobs.queue part.jobs.number part.jobs.jobs (part.jobs.sent ++ message.End number ∷ []);
}

-- What contracts see of it as a front

-- the step that an acknowledgement tells
abbrev pub step_by : Ack → RunStep
step_by ack = record { write = ack.write; outcome = ack.outcome; stamp = ack.stamp }

-- the step with the ticket of its job
abbrev pub acknowledged_by : Ack → Acknowledged
acknowledged_by ack = record { ticket = ack.ticket; step = step_by ack }

-- where the front stands before the owner
abbrev pub stand_of : FrontPart → QueueStand
stand_of part =
    record { jobs = part.jobs.queue; number = part.jobs.number; most = part.jobs.jobs; acks = part.acks.queue; table = part.acks.table }

-- what a part was told: its steps, and its seat's tries
abbrev pub told_by : FrontPart → Told
told_by part = record {
  steps = map step_by part.acks.list;
  tried = (reader_state part.seat).tried;
  failed = length (reader_state part.seat).fails;
  closed = (reader_state part.seat).closed;
}

abbrev pub session_of : FrontPart → Session
session_of part = record {
  seen = (reader_state part.seat).seen;
  done = (reader_state part.seat).done;
  last = part.last;
  told = Some (told_by part);
}

-- nothing was seen of a partition that there is not
abbrev pub session_or_none : Option FrontPart → Session
session_or_none None = record { seen = []; done = []; last = 0; told = None }
session_or_none (Some part) = session_of part

-- the session of each part, by the number of its partition
abbrev pub sessions_of : List FrontPart → Sessions
sessions_of parts = λ p. session_or_none (slice_get parts p)

-- What its calls make of one partition

-- some acknowledgements were taken, or none
pub record HasTakenMore (old new : AckBox) : Type 0 where
  pub more : List Ack
  pub taken : new ≡ ack_box old.queue old.table old.shape (old.list ++ more)

-- Acknowledgements were taken, the last of them the one of the ticket and the write, with a stamp that may be answered after the last one.
pub record HasAwaited (old : AckBox) (last ticket : ℕ) (write : Write) (ack : Ack) (new : AckBox) : Type 0 where
  pub more : List Ack
  pub taken : new ≡ ack_box old.queue old.table old.shape (old.list ++ more ++ ack ∷ [])
  pub order : AckMayFollow old.table old.shape (old.list ++ more) ack
  pub acked : IsAcked (note_state ack.note) ack.write ack.outcome ack.stamp
  pub ticket_is : ack.ticket ≡ ticket
  pub write_is : ack.write ≡ write
  pub no_fall : last ≤ ack.stamp
  pub rises : is_accepted ack.outcome ≡ true → last < ack.stamp

-- the ends and the table of a part are the same
pub record StaysPart (old new : FrontPart) : Type 0 where
  pub shape : (reader_state new.seat).shape ≡ (reader_state old.seat).shape
  pub home : reader_home new.seat ≡ reader_home old.seat
  pub acks : new.acks ≡ ack_box old.acks.queue old.acks.table old.acks.shape new.acks.list

-- One job was sent, and answered.
pub record PartWrites (old : FrontPart) (job : Job) (outcome : Outcome) (stamp : ℕ) (new : FrontPart) : Type 0 where
  pub jobs : new.jobs ≡ outbox old.jobs.queue old.jobs.number old.jobs.jobs (old.jobs.sent ++ message.Job job ∷ [])
  pub stays : StaysPart old new
  pub written : (options : Options) → (reader_state old.seat).shape ≡ shape_of options
      → Writes options false (session_of old) (record { write = job.write; outcome = outcome; stamp = stamp }) (session_of new)

-- A get was answered.
pub record PartReads (old : FrontPart) (key : List ℕ) (answer : Answer) (stamp : ℕ) (buffer : List ℕ) (new : FrontPart) : Type 0 where
  pub jobs : new.jobs ≡ old.jobs
  pub acks : new.acks ≡ old.acks
  pub stays : StaysPart old new
  pub value : Option (List ℕ)
  pub is : IsAnswer answer buffer value
  pub read : (options : Options) → (reader_state old.seat).shape ≡ shape_of options
      → Reads options false (session_of old) key stamp value (session_of new)
