use Rattle.std.proofs.Common.{ℕ, ◌<◌, sym, rules, subst}
use Rattle.partition_words.specs.declared.shape.Shape.{Shape}
use Rattle.partition_words.specs.declared.shape.WordAt.TheVariants.{Epoch}
use Rattle.partition_words.specs.Shape.{IsMain}
use Rattle.partition_table.proofs.Steps.{tallies_here}
use Rattle.partition_table.proofs.Bounds.{word_inside, first_main}
use Rattle.partition_table.proofs.reader.ReaderSeat.epoch_of_first.Goals as goal

pub load-requires : goal.load-requires
load-requires c =
    let self = c.args.self.now in
    let main = first_main self.places.shape self.valid in
    let there = word_inside self.places.shape (Epoch 0) c.of-place.result _ self.valid main c.of-place.ensures.place self.wide in
    (search rules, search rules, tallies_here _ _ self.seat.me self.reads 0 _ c.of-place.ensures.place (subst (λ (z : Shape). IsMain z 0) (sym self.shaped) main))

pub returns-clause-most : goal.returns-clause-most
returns-clause-most c = c.load.ensures.2.1 0 c.of-place.ensures.place
