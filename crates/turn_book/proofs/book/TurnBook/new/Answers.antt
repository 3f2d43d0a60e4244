use Rattle.turn_book.proofs.Keeps.{begins}
use Rattle.turn_book.proofs.book.TurnBook.new.Goals as goal

pub of_words-requires : goal.of_words-requires
of_words-requires g c = begins
