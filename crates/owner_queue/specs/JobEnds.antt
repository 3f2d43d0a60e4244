-- What contracts see of the ends of a queue of jobs.
use Rattle.std.specs.Prelude.{◌≡◌, ℕ, ◌<◌, Bool, List, slice_get, Some}
use Rattle.owner_queue.specs.declared.message.Message.{Message}
use Rattle.ruled_queue.specs.Ends.{Queue}
use Rattle.owner_queue.specs.Messages.{has_end}

-- a sender: its queue, its number, how many jobs it may send, and what it sent
pub record Outbox : Type 0 where
  pub queue : Queue Message
  pub number : ℕ
  pub jobs : ℕ
  pub sent : List Message

-- a sender of jobs, of these parts
abbrev pub outbox : Queue Message → ℕ → ℕ → List Message → Outbox
outbox queue number jobs sent = record { queue = queue; number = number; jobs = jobs; sent = sent }

-- the receiver: its queue, how many senders that was made with, how many jobs each may send, and what was taken
pub record Inbox : Type 0 where
  pub queue : Queue Message
  pub senders : ℕ
  pub jobs : ℕ
  pub taken : List Message

-- a receiver of jobs, of these parts
abbrev pub inbox : Queue Message → ℕ → ℕ → List Message → Inbox
inbox queue senders jobs taken = record { queue = queue; senders = senders; jobs = jobs; taken = taken }

-- the flags tell of each sender whether its end was taken
abbrev pub HasFlags : List Bool → List Message → Type 0
HasFlags flags taken = (p : ℕ) → p < 16 → slice_get flags p ≡ Some (has_end p taken)
