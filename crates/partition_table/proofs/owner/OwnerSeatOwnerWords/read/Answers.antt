use Rattle.std.proofs.Common.{rules, subst}
use Rattle.partition_words.specs.declared.shape.Shape.{Shape}
use Rattle.partition_words.specs.Layout.{IsInside}
use Rattle.partition_table.proofs.Steps.{reads}
use Rattle.partition_table.proofs.Bounds.{word_inside}
use Rattle.partition_table.proofs.owner.OwnerSeatOwnerWords.read.Goals as goal

pub load-requires : goal.load-requires
load-requires c =
    let self = c.args.self.now in
    let there = word_inside self.places.shape c.args.at c.of-place.result _ self.valid (subst (λ (z : Shape). IsInside z c.args.at) self.shaped c.requires) c.of-place.ensures.place self.wide in
    (search rules, search rules, reads _ _ self.seat.me self.owns _)
