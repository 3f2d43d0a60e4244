use Rattle.std.proofs.Common.{rules, ap, sym, ◌∙◌}
use Rattle.turn_book.specs.Rule.{view_of_badge}
use Rattle.turn_book.proofs.Keeps.{hears, learn}
use Rattle.turn_book.proofs.book.TurnBook.take_in.Goals as goal

pub join_seat-requires : goal.join_seat-requires
join_seat-requires g c =
    let is = ap (λ vs. (view_of_badge vs).takes) (sym c.into_seat-seat.ensures.2 ∙ c.taker.invariant) in
    (search rules, search rules, search rules, search rules, hears c.self.inside.seat.id c.self.inside.seat.me.0 _ _ (ap (λ m. m.0.keeps) c.self.invariant.2) is)

pub load-requires : goal.load-requires
load-requires g c = (search rules, search rules, learn _ _ _ (ap (λ m. m.0.keeps) c.join_seat.ensures.2) (ap (λ m. m.0.hears) c.join_seat.ensures.2))
