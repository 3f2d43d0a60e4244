use Rattle.std.proofs.Common.{rules, sym, ap, ◌∙◌}
use Rattle.partition_words.specs.declared.shape.Shape.{Shape}
use Rattle.partition_words.specs.Events.{place_of}
use Rattle.partition_table.specs.Rule.{owner_in}
use Rattle.partition_table.proofs.Steps.{stores_at}
use Rattle.partition_table.proofs.Bounds.{event_there}
use Rattle.partition_table.proofs.owner.OwnerSeat.store_as.Goals as goal

pub store-requires : goal.store-requires
store-requires g c =
    let self = c.args.self.now in
    let there = event_there (owner_in self.seat.me.0) self.places.shape _ c.args.place _ self.kept self.shaped c.requires.place self.wide c.requires.allowed in
    (search rules, search rules, stores_at _ _ self.seat.me self.owns _ _ _ (c.requires.place ∙ ap (λ (z : Shape). place_of z _) (sym self.shaped)) c.requires.allowed c.requires.value)
