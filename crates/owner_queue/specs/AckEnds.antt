-- What contracts see of the ends of a queue of acknowledgements.
use Rattle.std.specs.Prelude.{◌≡◌, List, ◌++◌}
use Rattle.atomic_table.specs.Seated.{TableId}
use Rattle.partition_words.specs.declared.shape.Shape.{Shape}
use Rattle.owner_queue.specs.declared.ack.Ack.{Ack}
use Rattle.ruled_queue.specs.Ends.{Queue}

-- an end: its queue, the table that the notes are of with its shape, and what it sent or took
pub record AckBox : Type 0 where
  pub queue : Queue Ack
  pub table : TableId
  pub shape : Shape
  pub list : List Ack

-- an end of a queue of acknowledgements, of these parts
abbrev pub ack_box : Queue Ack → TableId → Shape → List Ack → AckBox
ack_box queue table shape list = record { queue = queue; table = table; shape = shape; list = list }

-- the second list begins with the first
abbrev pub BeginsAcks : List Ack → List Ack → Type 0
BeginsAcks begun all = (later : List Ack) × (all ≡ begun ++ later)
