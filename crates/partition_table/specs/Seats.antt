-- What contracts see of a seat, of a note, and of what a seat has set aside: what it knows, and the table that it is of.
use Rattle.atomic_table.specs.Seated.{TableId}
use Rattle.partition_words.specs.declared.state.OwnerState.{OwnerState}
use Rattle.partition_words.specs.declared.reader.ReaderState.{ReaderState}
use Rattle.partition_table.specs.declared.owner.OwnerSeat.{OwnerSeat}
use Rattle.partition_table.specs.declared.reader.ReaderSeat.{ReaderSeat}
use Rattle.partition_table.specs.declared.reader.Note.{Note}
use Rattle.partition_table.specs.declared.reader.Aside.{Aside}
use Rattle.partition_table.specs.Rule.{owner_in, reader_in}

-- what contracts see of an owner's seat
abbrev pub owner_state : OwnerSeat → OwnerState
owner_state s = owner_in s.seat.me.0

abbrev pub owner_home : OwnerSeat → TableId
owner_home s = s.seat.table_id

-- what contracts see of a reader's seat
abbrev pub reader_state : ReaderSeat → ReaderState
reader_state s = reader_in s.seat.me.0

-- the table that a reader's seat is of
abbrev pub reader_home : ReaderSeat → TableId
reader_home s = s.seat.table_id

-- what a note tells of the seat that gave it
abbrev pub note_state : Note → ReaderState
note_state n = reader_in n.seat.me.0

-- the table that a note is of
abbrev pub note_home : Note → TableId
note_home n = n.seat.table_id

abbrev pub aside_state : Aside → ReaderState
aside_state a = reader_in a.seat.me.0

abbrev pub aside_home : Aside → TableId
aside_home a = a.seat.table_id
