-- What an owner makes of the jobs of its fronts.
use Rattle.std.specs.Prelude.{◌≡◌, ℕ, ◌≤◌, ◌==◌, List, [], ◌∷◌, ◌++◌, All, length, map, slice_get, Some, None, if◌then◌else◌}
use Rattle.std.specs.List.{filter_map}
use Rattle.atomic_table.specs.Seated.{TableId}
use Rattle.partition_model.specs.History.{stamp_of}
use Rattle.partition_words.specs.declared.state.OwnerState.{OwnerState}
use Rattle.partition_words.specs.OwnerState.{options_in}
use Rattle.partition_words.specs.OwnerStep.{IsOwnerStep}
use Rattle.owner_queue.specs.declared.ack.Ack.{Ack}
use Rattle.owner_queue.specs.declared.message.Job.{Job}
use Rattle.owner_queue.specs.JobEnds.{Inbox}
use Rattle.owner_queue.specs.Worked.{Acknowledged, DoneJob, HasWorked}
use Rattle.owner_queue.specs.AckEnds.{AckBox, ack_box}
use Rattle.fronts.specs.Placed.{Placed}
use Rattle.queue_front.specs.QueueFront.{acknowledged_by}

-- the machine's steps, each with its front
abbrev pub placed_in : List DoneJob → List Placed
placed_in done = map (λ it. record { front = it.sender; step = it.answer.step }) done

-- the answers to one front, in order
abbrev pub answers_to : ℕ → List DoneJob → List Acknowledged
answers_to front done = filter_map (λ it. if it.sender == front then Some it.answer else None) done

-- acknowledgements of an owner: their notes are of its table, and their stamps are none above its own
pub record IsAckBoxOf (home : TableId) (owner : OwnerState) (box : AckBox) : Type 0 where
  pub table : box.table ≡ home
  pub shape : box.shape ≡ owner.shape
  pub stamps : All (λ a. a.stamp ≤ stamp_of (options_in owner) owner.history) box.list

-- none yet
pub record IsNewAckBox (home : TableId) (owner : OwnerState) (box : AckBox) : Type 0 where
  pub table : box.table ≡ home
  pub shape : box.shape ≡ owner.shape
  pub none : box.list ≡ []

-- A job was done, by one step of the machine, and acknowledged.
pub record HasDone (old_home new_home : TableId) (old new : OwnerState) (job : Job) (before after : AckBox) : Type 0 where
  pub home : new_home ≡ old_home
  pub ack : Ack
  pub step : IsOwnerStep old new job.write ack.outcome
  pub stamped : ack.stamp ≡ stamp_of (options_in new) new.history
  pub ticket : ack.ticket ≡ job.ticket
  pub write : ack.write ≡ job.write
  pub sent : after ≡ ack_box before.queue before.table before.shape (before.list ++ ack ∷ [])

-- an owner's end to one front has sent just the answers to it
pub record IsSent (front : ℕ) (done : List DoneJob) (was box : AckBox) : Type 0 where
  pub same : box ≡ ack_box was.queue was.table was.shape box.list
  pub answers : map acknowledged_by box.list ≡ answers_to front done

-- The owner of a fresh queue did the jobs that it took, and each front was sent the answers to its own, in order.
pub record HasAnsweredJobs (old new : OwnerState) (from to : Inbox) (before after : List AckBox) : Type 0 where
  pub done : List DoneJob
  pub worked : HasWorked old new from to to.taken done
  pub fronts : length after ≡ length before
  pub sent : (front : ℕ) (was box : AckBox) → slice_get before front ≡ Some was → slice_get after front ≡ Some box → IsSent front done was box
