-- What a feeder has in hand, and what it makes of its senders.
use Rattle.std.specs.Prelude.{◌≡◌, ℕ, ◌==◌, List, [], ◌∷◌, ◌++◌, length, map, filter, slice_get, Some}
use Rattle.std.specs.Vec.Iter.{into_iter_items}
use Rattle.partition_model.specs.declared.write.Write.{Write}
use Rattle.owner_queue.specs.declared.message.Message.{Message}
use Rattle.owner_queue.specs.declared.message.Message.TheVariants as kind
use Rattle.owner_queue.specs.Messages.{MayFollow}
use Rattle.owner_queue.specs.JobEnds.{Outbox, outbox}
use Rattle.mica_replay.specs.declared.feeder.Feed.{Feed}
use Rattle.mica_replay.specs.declared.feeder.Feeder.{Feeder}

-- the jobs for one queue, in order
abbrev pub jobs_for : ℕ → List Feed → List Message
jobs_for queue feeds = map (λ feed. kind.Job feed.job) (filter (λ feed. feed.queue == queue) feeds)

-- the writes of these jobs
abbrev pub writes_for : ℕ → List Feed → List Write
writes_for queue feeds = map (λ feed. feed.job.write) (filter (λ feed. feed.queue == queue) feeds)

-- each job may stand behind those for its queue before it, by what its sender may send
abbrev pub AreInOrder : List Outbox → List Feed → Type 0
AreInOrder senders feeds = (a b : List Feed) (feed : Feed) → feeds ≡ a ++ feed ∷ b
    → (sender : Outbox) × (slice_get senders feed.queue ≡ Some sender) × (feed.job.sender ≡ sender.number) × MayFollow sender.jobs (jobs_for feed.queue a) (kind.Job feed.job)

-- the one sender of each queue, which has sent nothing, and jobs in order
pub record IsReadyFeeder (f : Feeder) : Type 0 where
  pub none : (p : ℕ) (sender : Outbox) → slice_get f.senders.items p ≡ Some sender → (sender.sent ≡ []) × (sender.number ≡ 0)
  pub order : AreInOrder f.senders.items (into_iter_items f.feeds)

-- each sender sent the jobs for its queue, in order, and then its end
pub record HasFed (f : Feeder) (news : List Outbox) : Type 0 where
  pub many : length news ≡ length f.senders.items
  pub each : (p : ℕ) (old new : Outbox) → slice_get f.senders.items p ≡ Some old → slice_get news p ≡ Some new
      → new ≡ outbox old.queue old.number old.jobs (jobs_for p (into_iter_items f.feeds) ++ kind.End old.number ∷ [])
