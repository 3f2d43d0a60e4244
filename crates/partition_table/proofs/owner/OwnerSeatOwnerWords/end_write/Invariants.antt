use Rattle.std.proofs.Common.{[]}
use Rattle.partition_model.specs.declared.write.Op.TheVariants.{Del}
use Rattle.partition_model.specs.Write.{write_of}
use Rattle.partition_words.specs.Diary.{event_of}
use Rattle.partition_table.proofs.owner.OwnerSeatOwnerWords.end_write.Given as goal

abbrev pub ghosts-add_as : goal.ghosts-add_as
ghosts-add_as a = record { event = event_of a._event (write_of Del [] []) }
