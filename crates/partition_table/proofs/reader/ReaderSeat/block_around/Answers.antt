use Rattle.std.proofs.Common.{ℕ, ◌+◌, sym, ap, ◌∙◌, rules}
use Rattle.partition_words.specs.declared.shape.Shape.{Shape}
use Rattle.partition_words.specs.declared.shape.WordAt.TheVariants.{Item}
use Rattle.partition_words.specs.Layout.{item_at}
use Rattle.partition_words.specs.ReaderState.{loaded}
use Rattle.partition_words.proofs.Blocks.{block_more}
use Rattle.partition_table.specs.Rule.{Seated, reader_in}
use Rattle.partition_table.specs.Seats.{reader_state}
use Rattle.partition_table.proofs.Steps.{loads_at}
use Rattle.partition_table.proofs.Bounds.{word_inside}
use Rattle.partition_table.proofs.reader.ReaderSeat.block_around.Goals as goal

pub load-requires : goal.load-requires
load-requires c =
    let self = c.loop-i.self in
    let there = word_inside self.places.shape (Item (c.args.offset + c.loop-i.i)) c.of-place.result _ self.valid tt c.of-place.ensures.place self.wide in
    (search rules, search rules, loads_at _ _ self.seat.me self.reads _)

pub invariant_of-self-clause-seated : goal.invariant_of-self-clause-seated
invariant_of-self-clause-seated c = search rules

pub loop-i-preserved : goal.loop-i-preserved
loop-i-preserved c =
    let self = c.loop-i.self in record {
      event = block_more c.args.offset c.loop-i.i c.load.result c.loop-i.block (reader_state c.args.self.now) (reader_state self) (reader_in c.load.new.seat.me.0)
          c.loop-i.invariant.event
          (ap (λ (z : Seated). reader_in z.0) c.load.ensures.2
          ∙ ap (λ (z : ℕ). loaded z c.load.result (reader_state self)) (c.of-place.ensures.place ∙ ap (λ (z : Shape). item_at z (c.args.offset + c.loop-i.i)) (sym self.shaped)))
          (search rules);
      wide = search rules;
      home = search rules;
    }
