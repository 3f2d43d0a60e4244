-- In what order acknowledgements may be sent.
use Rattle.std.specs.Prelude.{◌≡◌, ℕ, ◌<◌, ◌≤◌, true, List, [], All, refl}
use Rattle.atomic_table.specs.Seated.{TableId}
use Rattle.partition_model.specs.Write.{is_accepted}
use Rattle.partition_words.specs.declared.shape.Shape.{Shape}
use Rattle.partition_words.specs.ReaderState.{newcomer}
use Rattle.partition_table.specs.declared.reader.Note.{Note}
use Rattle.partition_table.specs.declared.rule.View.TheVariants.{Reads}
use Rattle.partition_table.specs.Rule.{no_shape}
use Rattle.owner_queue.specs.declared.ack.Ack.{Ack}
use Rattle.partition_table.specs.Seats.{note_state, note_home}

-- a queue of acknowledgements has one sender
abbrev pub only_sender : Ack → ℕ
only_sender ack = 0

-- An acknowledgement may follow others: its note is of the queue's table and its shape, its ticket is above theirs, and its stamp is at
-- least theirs, and above them where its write was accepted.
pub record AckMayFollow (table : TableId) (shape : Shape) (before : List Ack) (ack : Ack) : Type 0 where
  pub note : note_home ack.note ≡ table
  pub same : (note_state ack.note).shape ≡ shape
  pub ticket : All (λ b. b.ticket < ack.ticket) before
  pub stamp : All (λ b. b.stamp ≤ ack.stamp) before
  pub accepted : is_accepted ack.outcome ≡ true → All (λ b. b.stamp < ack.stamp) before

-- what an acknowledgement is, behind others, at the table of a note
abbrev pub AckMayFollowAt : Note → List Ack → Ack → Type 0
AckMayFollowAt note before ack = AckMayFollow (note_home note) (note_state note).shape before ack

-- a note of no table
abbrev pub no_note : Note
no_note = record {
  seat = record { marker = record {}; table_id = record { words = 0; slots = 0; views_name = 0; atom = 0; block = 0; offset = 0; slot_names = [] }; id = 0; me = (Reads (newcomer no_shape [] []), []) };
  reads = refl;
  light = refl;
}
