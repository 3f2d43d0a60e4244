-- What an owner makes of the messages that it takes.
use Rattle.std.specs.Prelude.{◌≡◌, ℕ, ◌<◌, List, ◌++◌, All, map, Option, Some, None}
use Rattle.std.specs.List.{filter_map}
use Rattle.partition_model.specs.declared.write.Outcome.{Outcome}
use Rattle.partition_model.specs.Run.{RunStep, history_of, IsRunFrom}
use Rattle.partition_words.specs.declared.state.OwnerState.{OwnerState}
use Rattle.partition_words.specs.OwnerState.{options_in}
use Rattle.owner_queue.specs.declared.message.Job.{Job}
use Rattle.owner_queue.specs.declared.message.Message.{Message}
use Rattle.owner_queue.specs.declared.message.Message.TheVariants as kind
use Rattle.owner_queue.specs.Messages.{sender_of}
use Rattle.owner_queue.specs.JobEnds.{Inbox, inbox}

-- an answer that an owner gave to a write, under the write's ticket
pub record Acknowledged : Type 0 where
  pub ticket : ℕ
  pub step : RunStep

-- a job that was done: who sent it, and its ticket with the step of the machine
pub record DoneJob : Type 0 where
  pub sender : ℕ
  pub answer : Acknowledged

-- a job with what came of it
abbrev pub done_by : Job → Outcome → ℕ → DoneJob
done_by job outcome stamp =
    record { sender = job.sender; answer = record { ticket = job.ticket; step = record { write = job.write; outcome = outcome; stamp = stamp } } }

-- the job of one that is done
abbrev pub job_of : DoneJob → Job
job_of it = record { sender = it.sender; ticket = it.answer.ticket; write = it.answer.step.write }

-- the job of a message, if it has one
abbrev pub job_in : Message → Option Job
job_in (kind.Job job) = Some job
job_in (kind.End sender) = None

-- the jobs among the messages, in order
abbrev pub jobs_in : List Message → List Job
jobs_in messages = filter_map job_in messages

-- the machine's steps
abbrev pub steps_of : List DoneJob → List RunStep
steps_of done = map (λ it. it.answer.step) done

-- The owner took these messages of its queue's senders, and did the jobs among them, in order: by a run of the machine, on from its history,
-- which gained the accepted writes and nothing else.
pub record HasWorked (old new : OwnerState) (from to : Inbox) (messages : List Message) (done : List DoneJob) : Type 0 where
  pub taken : to ≡ inbox from.queue from.senders from.jobs (from.taken ++ messages)
  pub low : All (λ m. sender_of m < from.senders) messages
  pub jobs : map job_of done ≡ jobs_in messages
  pub run : IsRunFrom (options_in old) old.history (steps_of done)
  pub gained : new ≡ record old { words = new.words; history = old.history ++ history_of (steps_of done) }
