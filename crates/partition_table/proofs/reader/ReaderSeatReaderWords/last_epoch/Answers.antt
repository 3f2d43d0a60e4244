use Rattle.std.proofs.Common.{rules}
use Rattle.partition_words.specs.declared.shape.WordAt.TheVariants.{Epoch}
use Rattle.partition_table.specs.Rule.{reader_in}
use Rattle.partition_table.proofs.Steps.{shuts_here, try_main}
use Rattle.partition_table.proofs.Bounds.{word_inside}
use Rattle.partition_table.proofs.reader.ReaderSeatReaderWords.last_epoch.Goals as goal

pub load-requires : goal.load-requires
load-requires c =
    let self = c.args.self.now in
    let main = try_main self.places.shape (reader_in self.seat.me.0).current self.bucket c.requires self.tries in
    let there = word_inside self.places.shape (Epoch self.bucket) c.of-place.result _ self.valid main c.of-place.ensures.place self.wide in
    (search rules, search rules, shuts_here _ _ self.seat.me self.reads self.bucket _ c.of-place.ensures.place (λ t e. (self.tries t e).0))
