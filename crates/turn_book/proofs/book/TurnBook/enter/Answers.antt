use Rattle.std.proofs.Common.{rules, ap, sym, ◌∙◌}
use Rattle.turn_book.specs.Rule.{view_of_badge}
use Rattle.turn_book.proofs.Keeps.{hears, enters}
use Rattle.turn_book.proofs.book.TurnBook.enter.Goals as goal

pub join_seat-requires : goal.join_seat-requires
join_seat-requires g c =
    let is = ap (λ vs. (view_of_badge vs).takes) (sym c.into_seat-seat.ensures.2 ∙ (ap (λ b. b.views) c.replace.ensures.value ∙ c.taker.invariant)) in
    (search rules, search rules, search rules, search rules, hears c.self.inside.seat.id c.self.inside.seat.me.0 _ _ (ap (λ m. m.0.keeps) c.self.invariant.2) is)

pub split_seat-seat-requires : goal.split_seat-seat-requires
split_seat-seat-requires g c = (search rules, search rules, enters _ _ g.K.Entered.what (ap (λ m. m.0.keeps) c.join_seat.ensures.2) (ap (λ m. m.0.hears) c.join_seat.ensures.2))
