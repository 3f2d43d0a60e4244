use Rattle.std.proofs.Common.{rules}
use Rattle.partition_words.specs.declared.shape.WordAt.TheVariants.{Item}
use Rattle.partition_table.proofs.Steps.{loads_at}
use Rattle.partition_table.proofs.Bounds.{word_inside}
use Rattle.partition_table.proofs.reader.ReaderSeatReaderWords.item_word.Goals as goal

pub load-requires : goal.load-requires
load-requires c =
    let self = c.args.self.now in
    let there = word_inside self.places.shape (Item c.args.offset) c.of-place.result _ self.valid tt c.of-place.ensures.place self.wide in
    (search rules, search rules, loads_at _ _ self.seat.me self.reads _)
