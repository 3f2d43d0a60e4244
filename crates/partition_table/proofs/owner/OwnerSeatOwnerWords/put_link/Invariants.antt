use Rattle.partition_model.specs.Write.{write_of}
use Rattle.partition_words.specs.Diary.{event_of}
use Rattle.partition_table.proofs.owner.OwnerSeatOwnerWords.put_link.Given as goal

abbrev pub ghosts-store_as : goal.ghosts-store_as
ghosts-store_as a = record { event = event_of a._event (write_of a._op a._key.now a._value.now) }
