-- What owners and fronts have in hand of each other: before they run, afterwards, and once they met.
use Rattle.std.specs.Prelude.{◌≡◌, ◌+◌, ◌<◌, ℕ, true, List, [], ◌∷◌, ◌++◌, map, length, slice_get, Option, Some, None, sum_by, All}
use Rattle.atomic_table.specs.Seated.{TableId}
use Rattle.partition_model.specs.declared.options.Options.{Options}
use Rattle.partition_model.specs.History.{IsPrefix}
use Rattle.partition_words.specs.declared.state.OwnerState.{OwnerState}
use Rattle.partition_words.specs.Shape.{shape_of}
use Rattle.partition_words.specs.OwnerState.{as_made}
use Rattle.partition_words.specs.Joins.{lent}
use Rattle.partition_table.specs.Seats.{reader_state, reader_home}
use Rattle.owner_queue.specs.Messages.{sent_by, has_end}
use Rattle.owner_queue.specs.JobEnds.{Outbox, outbox, Inbox, inbox}
use Rattle.owner_queue.specs.AckEnds.{AckBox, ack_box, BeginsAcks}
use Rattle.queue_front.specs.declared.queue_front.FrontPart.{FrontPart}
use Rattle.queue_front.specs.QueueFront.{QueueView, queue_view}
use Rattle.queue_front.specs.OwnerWork.{IsNewAckBox, HasAnsweredJobs}

-- of an owner: its state and its table, its end of the queue of jobs, and its end of the queue of answers to each front
pub record OwnerEnd : Type 0 where
  pub state : OwnerState
  pub table : TableId
  pub jobs : Inbox
  pub acks : List AckBox

-- Before they run

-- an owner as made, with a fresh queue of so many jobs from each of so many fronts, and an end of a queue to each front
pub record IsNewOwner (options : Options) (fronts most : ℕ) (owner : OwnerEnd) : Type 0 where
  pub state : owner.state ≡ as_made (shape_of options)
  pub jobs : owner.jobs ≡ inbox owner.jobs.queue fronts most []
  pub acks : length owner.acks ≡ fronts
  pub unsent : (f : ℕ) (a : AckBox) → slice_get owner.acks f ≡ Some a → a ≡ ack_box a.queue owner.table owner.state.shape []

-- what a front has of the owner, as lent
pub record IsLentBy (f most : ℕ) (owner : OwnerEnd) (part : FrontPart) : Type 0 where
  pub seat : reader_state part.seat ≡ lent owner.state
  pub table : reader_home part.seat ≡ owner.table
  pub unanswered : part.last ≡ 0
  pub jobs : part.jobs ≡ outbox owner.jobs.queue f most []
  pub acks : part.acks ≡ ack_box part.acks.queue owner.table owner.state.shape []
  pub answers : slice_get owner.acks f ≡ Some part.acks

-- each front has a part of each owner, in order
pub record AreLent (options : Options) (fronts most : ℕ) (owners : List OwnerEnd) (hands : List (List FrontPart)) : Type 0 where
  pub many : length hands ≡ fronts
  pub fresh : (p : ℕ) (owner : OwnerEnd) → slice_get owners p ≡ Some owner → IsNewOwner options fronts most owner
  pub each_many : (f : ℕ) (own : List FrontPart) → slice_get hands f ≡ Some own → length own ≡ length owners
  pub each : (f p : ℕ) (own : List FrontPart) (part : FrontPart) (owner : OwnerEnd) → slice_get hands f ≡ Some own → slice_get own p ≡ Some part
      → slice_get owners p ≡ Some owner → IsLentBy f most owner part

-- the senders of a fresh queue of the owner, one for each front, in order
abbrev pub AreSendersOf : OwnerEnd → List Outbox → Type 0
AreSendersOf owner senders = (f : ℕ) (sender : Outbox) → slice_get senders f ≡ Some sender → sender ≡ outbox owner.jobs.queue f owner.jobs.jobs []

-- the owner lent a front this part with its sender, and has an end of a queue more, to that front
pub record LendsPart (sender : Outbox) (old new : OwnerEnd) (part : FrontPart) : Type 0 where
  pub same : new ≡ record old { acks = old.acks ++ part.acks ∷ [] }
  pub seat : reader_state part.seat ≡ lent old.state
  pub table : reader_home part.seat ≡ old.table
  pub unanswered : part.last ≡ 0
  pub jobs : part.jobs ≡ sender
  pub acks : part.acks ≡ ack_box part.acks.queue old.table old.state.shape []

-- the owner has an end of a queue to each front, which has one part more, of this owner
pub record LendsEach (old new : OwnerEnd) (before after : List (List FrontPart)) : Type 0 where
  pub many : length after ≡ length before
  pub same : new ≡ record old { acks = new.acks }
  pub acks : length new.acks ≡ length before
  pub unsent : (f : ℕ) (a : AckBox) → slice_get new.acks f ≡ Some a → a ≡ ack_box a.queue new.table new.state.shape []
  pub each : (f : ℕ) (was own : List FrontPart) → slice_get before f ≡ Some was → slice_get after f ≡ Some own
      → (part : FrontPart) × (own ≡ was ++ part ∷ []) × IsLentBy f new.jobs.jobs new part

-- the owner was made, and each front has one part more, of this owner
pub record LendsOneMore (options : Options) (most : ℕ) (owner : OwnerEnd) (before after : List (List FrontPart)) : Type 0 where
  pub many : length after ≡ length before
  pub made : IsNewOwner options (length before) most owner
  pub each : (f : ℕ) (old new : List FrontPart) → slice_get before f ≡ Some old → slice_get after f ≡ Some new
      → (part : FrontPart) × (new ≡ old ++ part ∷ []) × IsLentBy f most owner part

-- so each front of these has its number and a part of each owner
pub record AreFrontsOf (options : Options) (fronts most : ℕ) (owners : List OwnerEnd) (made : List QueueView) : Type 0 where
  pub lent : AreLent options fronts most owners (map (λ front. front.parts) made)
  pub partitions : length owners ≡ options.partitions
  pub each : (f : ℕ) (front : QueueView) → slice_get made f ≡ Some front → front ≡ queue_view options f 0 most front.parts

-- the owner's queue is fresh, and nothing was sent to a front
pub record IsReadyOwner (owner : OwnerEnd) : Type 0 where
  pub fresh : owner.jobs.taken ≡ []
  pub many : length owner.acks ≡ owner.jobs.senders
  pub unsent : All (IsNewAckBox owner.table owner.state) owner.acks

-- After they ran

-- an owner took its queue to the end, and answered the jobs that it took
pub record RanOwner (old new : OwnerEnd) : Type 0 where
  pub served : HasAnsweredJobs old.state new.state old.jobs new.jobs old.acks new.acks
  pub ended : (f : ℕ) → f < old.jobs.senders → has_end f new.jobs.taken ≡ true
  pub table : new.table ≡ old.table

-- Once they met

-- the part is of the owner's queues and table, and the owner took the front's end
pub record MayMeet (f : ℕ) (owner : OwnerEnd) (part : FrontPart) : Type 0 where
  pub number : part.jobs.number ≡ f
  pub jobs : part.jobs.queue ≡ owner.jobs.queue
  pub ended : has_end f owner.jobs.taken ≡ true
  pub acks : (a : AckBox) → slice_get owner.acks f ≡ Some a → a.queue ≡ part.acks.queue
  pub table : reader_home part.seat ≡ owner.table

-- The owner took all that the front sent, the front took a beginning of the answers, and it has seen a beginning of the owner's history.
pub record HasMet (f : ℕ) (owner : OwnerEnd) (part : FrontPart) : Type 0 where
  pub whole : sent_by f owner.jobs.taken ≡ part.jobs.sent
  pub begins : (a : AckBox) → slice_get owner.acks f ≡ Some a → BeginsAcks part.acks.list a.list
  pub seen : IsPrefix (reader_state part.seat).seen owner.state.history

-- an owner took in its part of the last front that is left
pub record MeetsPart (old new : OwnerEnd) (part : FrontPart) : Type 0 where
  pub answers : AckBox
  pub acks : old.acks ≡ new.acks ++ answers ∷ []
  pub met : HasMet (length new.acks) old part
  pub same : new ≡ record old {
    state = record old.state { met = new.state.met; closed = old.state.closed + (reader_state part.seat).closed };
    acks = new.acks;
  }

-- the parts are those of the last front that is left, one for each owner
pub record MayMeetHand (owners : List OwnerEnd) (parts : List FrontPart) : Type 0 where
  pub many : length parts ≡ length owners
  pub front : ℕ
  pub last : (p : ℕ) (owner : OwnerEnd) → slice_get owners p ≡ Some owner → length owner.acks ≡ front + 1
  pub each : (p : ℕ) (part : FrontPart) (owner : OwnerEnd) → slice_get parts p ≡ Some part → slice_get owners p ≡ Some owner → MayMeet front owner part

-- each owner took in its part of it
pub record MeetsHand (olds news : List OwnerEnd) (parts : List FrontPart) : Type 0 where
  pub many : length news ≡ length olds
  pub each : (p : ℕ) (part : FrontPart) (old new : OwnerEnd) → slice_get parts p ≡ Some part → slice_get olds p ≡ Some old → slice_get news p ≡ Some new
      → MeetsPart old new part

abbrev pub closed_by : Option FrontPart → ℕ
closed_by None = 0
closed_by (Some part) = (reader_state part.seat).closed

-- how many tries of a front's seat of the partition answered
abbrev pub closed_at : ℕ → List FrontPart → ℕ
closed_at p own = closed_by (slice_get own p)

-- the owners may meet these fronts
pub record MayMeetAll (owners : List OwnerEnd) (hands : List (List FrontPart)) : Type 0 where
  pub fronts : (p : ℕ) (owner : OwnerEnd) → slice_get owners p ≡ Some owner → length owner.acks ≡ length hands
  pub many : (f : ℕ) (own : List FrontPart) → slice_get hands f ≡ Some own → length own ≡ length owners
  pub each : (f p : ℕ) (own : List FrontPart) (part : FrontPart) (owner : OwnerEnd) → slice_get hands f ≡ Some own → slice_get own p ≡ Some part
      → slice_get owners p ≡ Some owner → MayMeet f owner part

-- the owner once it met these fronts: no end of a queue to them is left with it, and their tries are counted
abbrev pub met_after : ℕ → List (List FrontPart) → OwnerEnd → OwnerEnd → OwnerEnd
met_after p hands old new =
    record old { state = record old.state { met = new.state.met; closed = old.state.closed + sum_by (closed_at p) hands }; acks = new.acks }

-- the owners met all of these fronts
pub record HaveMetAll (olds news : List OwnerEnd) (hands : List (List FrontPart)) : Type 0 where
  pub many : length news ≡ length olds
  pub met : (f p : ℕ) (own : List FrontPart) (part : FrontPart) (old : OwnerEnd) → slice_get hands f ≡ Some own → slice_get own p ≡ Some part
      → slice_get olds p ≡ Some old → HasMet f old part
  pub same : (p : ℕ) (old new : OwnerEnd) → slice_get olds p ≡ Some old → slice_get news p ≡ Some new → new ≡ met_after p hands old new
