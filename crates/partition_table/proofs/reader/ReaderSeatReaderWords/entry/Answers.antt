use Rattle.std.proofs.Common.{rules, subst}
use Rattle.partition_words.specs.declared.shape.Shape.{Shape}
use Rattle.partition_words.specs.declared.shape.WordAt.TheVariants.{Entry}
use Rattle.partition_words.specs.Layout.{IsInside}
use Rattle.partition_table.proofs.Steps.{loads_at}
use Rattle.partition_table.proofs.Bounds.{word_inside}
use Rattle.partition_table.proofs.reader.ReaderSeatReaderWords.entry.Goals as goal

pub load-requires : goal.load-requires
load-requires c =
    let self = c.args.self.now in
    let there = word_inside self.places.shape (Entry c.args.bucket c.args.slot) c.of-place.result _ self.valid (subst (λ (z : Shape). IsInside z (Entry c.args.bucket c.args.slot)) self.shaped c.requires) c.of-place.ensures.place self.wide in
    (search rules, search rules, loads_at _ _ self.seat.me self.reads _)
