-- The seat of a scripted reader.
use Rattle.scripted_reader.specs.declared.scripted.Book.{Book}
use Rattle.scripted_reader.specs.declared.scripted.Scripted.{Scripted}

-- what a scripted reader keeps of its owner and itself
abbrev pub book_of : Scripted → Book
book_of seat = seat.stage.seat.me.0
