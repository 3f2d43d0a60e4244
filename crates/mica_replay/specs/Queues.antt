-- The queues of a round, and what their owners took of them.
use Rattle.std.specs.Prelude.{◌≡◌, ℕ, List, [], length, map, slice_get, Some, true}
use Rattle.owner_queue.specs.Messages.{sent_by, has_end}
use Rattle.owner_queue.specs.JobEnds.{Outbox, outbox, inbox}
use Rattle.mica_replay.specs.declared.worker.OwnerWork.{OwnerWork}
use Rattle.mica_replay.specs.Replies.{replies_with}

module _ {P : Type 0} where
  -- an owner has a fresh queue with this sender, and room for a reply to each of its jobs
  pub record HasQueue (old new : OwnerWork P) (sender : Outbox) : Type 0 where
    pub same : new ≡ record old { jobs = new.jobs; done = replies_with [] sender.jobs }
    pub sender_is : sender ≡ outbox new.jobs.queue 0 sender.jobs []
    pub jobs_are : new.jobs ≡ inbox new.jobs.queue 1 sender.jobs []

  -- each owner has its queue, for as many jobs as these
  pub record HaveQueues (counts : List ℕ) (olds news : List (OwnerWork P)) (senders : List Outbox) : Type 0 where
    pub many : length news ≡ length olds
    pub counts_are : map (λ s. s.jobs) senders ≡ counts
    pub senders_many : length senders ≡ length olds
    pub each : (p : ℕ) (old new : OwnerWork P) (sender : Outbox) → slice_get olds p ≡ Some old → slice_get news p ≡ Some new → slice_get senders p ≡ Some sender → HasQueue old new sender

  -- each sender is one of its owner's queue, of which the owner took the end
  pub record MayTakeIn (owners : List (OwnerWork P)) (senders : List Outbox) : Type 0 where
    pub many : length senders ≡ length owners
    pub each : (p : ℕ) (w : OwnerWork P) (sender : Outbox) → slice_get owners p ≡ Some w → slice_get senders p ≡ Some sender
        → (sender.queue ≡ w.jobs.queue) × (has_end sender.number w.jobs.taken ≡ true)

  -- each owner, as it was, took exactly what its sender sent
  pub record HaveTakenIn (olds news : List (OwnerWork P)) (senders : List Outbox) : Type 0 where
    pub same : news ≡ olds
    pub whole : (p : ℕ) (w : OwnerWork P) (sender : Outbox) → slice_get olds p ≡ Some w → slice_get senders p ≡ Some sender
        → sent_by sender.number w.jobs.taken ≡ sender.sent
