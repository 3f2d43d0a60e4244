use Rattle.std.proofs.Common.{◌+◌, length, sym, ◌∙◌, arith, rules}
use Rattle.mica_words.specs.Item.{words_for}
use Rattle.mica_words.specs.Packing.{packed}
use Rattle.mica_words.proofs.PackedBytes.{length-packed}
use Rattle.optimistic_get.proofs.Loads.{on_load, on_at_most, on_open, first_more, lacks}
use Rattle.optimistic_get.proofs.looking.holds_packed.Goals as goal

pub returns-then-item_word-packed_word-clause-on : goal.returns-then-item_word-packed_word-clause-on
returns-then-item_word-packed_word-clause-on g c =
    let reader = g.R.ReaderWords.reader in
    on_at_most (reader c.args.seat.now) (reader c.item_word.new.self) (c.loop-i.i + 1) (words_for (length c.args.bytes.now)) (omega (arith, c.loop-i-test.true, c.div_ceil-i-end.ensures))
    (on_load (reader c.args.seat.now) (reader c.loop-i.seat) (reader c.item_word.new.self) c.loop-i.i _ c.item_word.result c.loop-i.invariant.on c.item_word.ensures.event)

pub returns-then-item_word-packed_word-clause-shows : goal.returns-then-item_word-packed_word-clause-shows
returns-then-item_word-packed_word-clause-shows g c =
    let reader = g.R.ReaderWords.reader in
    lacks (reader c.loop-i.seat) (reader c.item_word.new.self) c.item_word.result c.args.offset c.loop-i.i (packed c.args.bytes.now)
    (on_open (reader c.args.seat.now) (reader c.loop-i.seat) c.loop-i.i c.loop-i.invariant.on) c.item_word.ensures.event
    (omega (arith, length-packed c.args.bytes.now, c.loop-i-test.true, c.div_ceil-i-end.ensures)) (λ same. c.if-item_word-packed_word.true (same ∙ sym c.packed_word.ensures))

pub loop-i-preserved : goal.loop-i-preserved
loop-i-preserved g c =
    let reader = g.R.ReaderWords.reader in record {
      on = on_load (reader c.args.seat.now) (reader c.loop-i.seat) (reader c.item_word.new.self) c.loop-i.i _ c.item_word.result c.loop-i.invariant.on c.item_word.ensures.event;
      first = first_more (reader c.loop-i.seat) (reader c.item_word.new.self) c.item_word.result c.args.offset c.loop-i.i (packed c.args.bytes.now)
          (on_open (reader c.args.seat.now) (reader c.loop-i.seat) c.loop-i.i c.loop-i.invariant.on) c.item_word.ensures.event (c.if-item_word-packed_word.false ∙ c.packed_word.ensures) c.loop-i.invariant.first;
      home = search rules;
      plan = search rules;
    }

pub returns-clause-shows : goal.returns-clause-shows
returns-clause-shows g c = λ i l. c.loop-i.invariant.first i (omega (arith, length-packed c.args.bytes.now, c.loop-i-test.false, c.div_ceil-i-end.ensures))
