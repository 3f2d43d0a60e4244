use Rattle.std.proofs.Common.{rules}
use Rattle.partition_words.specs.declared.shape.WordAt.TheVariants.{Stamp}
use Rattle.partition_table.proofs.Steps.{stamps_here}
use Rattle.partition_table.proofs.Bounds.{word_inside}
use Rattle.partition_table.proofs.reader.ReaderSeatReaderWords.stamp.Goals as goal

pub load-requires : goal.load-requires
load-requires c =
    let self = c.args.self.now in
    let there = word_inside self.places.shape (Stamp) c.of-place.result _ self.valid tt c.of-place.ensures.place self.wide in
    (search rules, search rules, stamps_here _ _ self.seat.me self.reads _ c.of-place.ensures.place)
