use Rattle.std.proofs.Common.{ℕ, ◌+◌, sym, ap, ◌∙◌, rules}
use Rattle.partition_words.specs.declared.shape.Shape.{Shape}
use Rattle.partition_words.specs.declared.shape.WordAt.TheVariants.{Item}
use Rattle.partition_words.specs.Layout.{item_at}
use Rattle.partition_words.specs.ReaderState.{loaded}
use Rattle.partition_words.proofs.Blocks.{block_more}
use Rattle.partition_table.specs.Rule.{Seated, reader_in}
use Rattle.partition_table.specs.Seats.{reader_state}
use Rattle.partition_table.proofs.Steps.{loads_at}
use Rattle.partition_table.proofs.Bounds.{word_inside}
use Rattle.partition_table.proofs.reader.ReaderSeatReaderWords.item_block.Goals as goal

pub load-requires : goal.load-requires
load-requires c =
    let self = c.loop-i.self in
    let here = c.loop-i.invariant.first.1 c.loop-i.i c.loop-i-test.true in
    let there = word_inside self.places.shape (Item (c.args.offset + c.loop-i.i)) _ _ self.valid tt here self.wide in
    (search rules, search rules, loads_at _ _ self.seat.me self.reads _)

pub invariant_of-self-in-loop-i-clause-seated : goal.invariant_of-self-in-loop-i-clause-seated
invariant_of-self-in-loop-i-clause-seated c = search rules

pub loop-i-preserved : goal.loop-i-preserved
loop-i-preserved c =
    let self = c.loop-i.self in
    let loop = c.loop-i.invariant in
    let here = loop.first.1 c.loop-i.i c.loop-i-test.true in record {
      event = block_more c.args.offset c.loop-i.i c.load.result c.loop-i.block (reader_state c.args.self.now) (reader_state self) (reader_in c.load.new.seat.me.0)
          loop.event
          (ap (λ (z : Seated). reader_in z.0) c.load.ensures.2
          ∙ ap (λ (z : ℕ). loaded z c.load.result (reader_state self)) (here ∙ ap (λ (z : Shape). item_at z (c.args.offset + c.loop-i.i)) (sym self.shaped)))
          (search rules);
      wide = search rules;
      first = loop.first;
      home = search rules;
    }
