-- The jobs of a round.
use Rattle.std.specs.Prelude.{◌≡◌, ℕ, ◌+◌, ◌≤◌, List, [], ◌∷◌, length, slice_get, Some}
use Rattle.std.specs.List.{AllByRecursion}
use Rattle.partition_model.specs.declared.write.Write.{Write}
use Rattle.partition_model.specs.Write.{IsWrite}
use Rattle.mica_replay.specs.declared.feeder.Feed.{Feed}
use Rattle.mica_replay.specs.Feeds.{jobs_for, writes_for}
use Rattle.owner_queue.specs.declared.message.Message.{Message}
use Rattle.owner_queue.specs.declared.message.Message.TheVariants as kind

-- how many queues there are, and their jobs
pub record Queued : Type 0 where
  pub queues : ℕ
  pub feeds : List Feed

abbrev pub queued : List Feed → List ℕ → Queued
queued feeds counts = record { queues = length counts; feeds = feeds }

-- the jobs of these writes, in order, from the one sender of a queue, whose tickets count from n
abbrev pub jobs_from : ℕ → List Write → List Message
jobs_from n [] = []
jobs_from n (write ∷ writes) = kind.Job (record { sender = 0; ticket = n; write = write }) ∷ jobs_from (n + 1) writes

-- Each queue's jobs have tickets from 0 and writes that fit, and the number of them stands ready.
pub record AreNumbered (feeds : List Feed) (counts : List ℕ) : Type 0 where
  pub jobs : (p : ℕ) → jobs_for p feeds ≡ jobs_from 0 (writes_for p feeds)
  pub fit : (p : ℕ) → AllByRecursion IsWrite (writes_for p feeds)
  pub counted : (p n : ℕ) → slice_get counts p ≡ Some n → n ≡ length (writes_for p feeds)
  pub none : (p : ℕ) → length counts ≤ p → writes_for p feeds ≡ []
