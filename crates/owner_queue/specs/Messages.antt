-- Jobs, ends, and in what order one sender may send them.
use Rattle.std.specs.Prelude.{◌≡◌, ℕ, ◌<◌, Bool, true, false, List, All}
use Rattle.std.specs.List.{list_any}
use Rattle.partition_model.specs.Write.{IsWrite}
use Rattle.owner_queue.specs.declared.message.Message.{Message}
use Rattle.owner_queue.specs.declared.message.Message.TheVariants as kind
use Rattle.ruled_queue.specs.Delivery as delivery

-- the sender that a message is of
abbrev pub sender_of : Message → ℕ
sender_of (kind.Job j) = j.sender
sender_of (kind.End p) = p

-- an end has none
abbrev pub ticket_of : Message → ℕ
ticket_of (kind.Job j) = j.ticket
ticket_of (kind.End p) = 0

-- whether the sender ends with it
abbrev pub is_end : Message → Bool
is_end (kind.Job j) = false
is_end (kind.End p) = true

-- a job's key and value fit, and there is no value where the operation has none
abbrev pub IsFit : Message → Type 0
IsFit (kind.Job j) = IsWrite j.write
IsFit (kind.End p) = Unit {0}

-- the messages of one sender, in order
abbrev pub sent_by : ℕ → List Message → List Message
sent_by p messages = delivery.from_sender sender_of p messages

-- the sender p has ended
abbrev pub has_end : ℕ → List Message → Bool
has_end p messages = list_any is_end (sent_by p messages)

-- A message may follow what its sender sent before: no end is among these, and a job's write fits and its ticket is below `jobs` and
-- above those before it.
pub record MayFollow (jobs : ℕ) (before : List Message) (m : Message) : Type 0 where
  pub no_end : list_any is_end before ≡ false
  pub in_range : is_end m ≡ false → ticket_of m < jobs
  pub rises : is_end m ≡ false → All (λ b. ticket_of b < ticket_of m) before
  pub fit : IsFit m
