-- A partition of either mode under one view.
use Rattle.atomic_table.specs.Seated.{TableId}
use Rattle.partition_words.specs.declared.state.OwnerState.{OwnerState}
use Rattle.partition_words.specs.Seats.{diary_of}
use Rattle.any_partition.specs.declared.plain.PlainPartition.{PlainPartition}
use Rattle.any_partition.specs.declared.plain.PlainPartition.TheVariants.{Cache, Store}

-- the state of its owner
abbrev pub owner_of : PlainPartition → OwnerState
owner_of (Cache part) = (diary_of part.words).owner
owner_of (Store part) = (diary_of part.words).owner

-- the table of one word that its owner's view stands in
abbrev pub home_of : PlainPartition → TableId
home_of (Cache part) = part.words.seat.table_id
home_of (Store part) = part.words.seat.table_id
