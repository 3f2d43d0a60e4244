-- Where a front stands before owners in other threads.
use Rattle.std.specs.Prelude.{ℕ}
use Rattle.atomic_table.specs.Seated.{TableId}
use Rattle.owner_queue.specs.declared.message.Message.{Message}
use Rattle.owner_queue.specs.declared.ack.Ack.{Ack}
use Rattle.ruled_queue.specs.Ends.{Queue}

-- where a front stands before an owner: the queue of its jobs, its number there and how many jobs it may send, the queue of its
-- acknowledgements, and the table that their notes are of
pub record QueueStand : Type 0 where
  pub jobs : Queue Message
  pub number : ℕ
  pub most : ℕ
  pub acks : Queue Ack
  pub table : TableId
