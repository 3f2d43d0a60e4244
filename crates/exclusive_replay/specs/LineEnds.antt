-- What contracts see of the ends of an owner's queue.
use Rattle.std.specs.Prelude.{ℕ, List}
use Rattle.ruled_queue.specs.Ends.{Queue}
use Rattle.exclusive_replay.specs.declared.queue.Sent.{Sent}

-- an end: its queue, how many lines there are to name, and what it sent or took
pub record LineBox : Type 0 where
  pub queue : Queue Sent
  pub lines : ℕ
  pub list : List Sent

abbrev pub line_box : Queue Sent → ℕ → List Sent → LineBox
line_box queue lines list = record { queue = queue; lines = lines; list = list }
