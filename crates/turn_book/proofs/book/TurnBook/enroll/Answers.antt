use Rattle.std.proofs.Common.{rules, ap}
use Rattle.turn_book.proofs.Keeps.{enrolls}
use Rattle.turn_book.proofs.book.TurnBook.enroll.Goals as goal

pub split_seat-seat-requires : goal.split_seat-seat-requires
split_seat-seat-requires g c = (search rules, search rules, enrolls c.self.inside.seat.id c.self.inside.seat.me.0 (ap (λ m. m.0.keeps) c.self.invariant.2))
