use Rattle.std.proofs.Common.{◌≡◌, length, take, sym, ap, ◌∙◌, arith}
use Rattle.std.specs.Vec.{with_items}
use Rattle.std.proofs.lemmas.List.{with_items_is}
use Rattle.saved_items.specs.Reading.{sum_after}
use Rattle.saved_items.specs.Reader.{rest_of}
use Rattle.saved_items.proofs.Streams.{load_same, load_short, load_untold, none_left}
use Rattle.saved_items.proofs.stream.load.Goals as goal

pub returns-then-count-lt-BLOCK_LEN-clause-stops :
    goal.returns-then-count-lt-BLOCK_LEN-clause-stops
returns-then-count-lt-BLOCK_LEN-clause-stops g c =
    let reader = c.args.reader.now in
    let long : length c.read_block.new.block ≡ 65536 = omega (arith, c.read_block.auto.block, c.as_mut_slice.ensures.len, reader.whole) in
    load_short reader.sum (rest_of reader) (none_left reader.at reader.block.items c.requires.given) (g.S.Source.left c.args.source.now) (g.S.Source.left c.read_block.new.source) c.in_ok-count.count c.read_block.new.block
    c.in_ok-count.ensures.given (c.in_ok-count.ensures.end (omega (arith, long, c.if-count-lt-BLOCK_LEN.true))) c.if-count-lt-BLOCK_LEN.true

pub returns-in_default-clause-stops : goal.returns-in_default-clause-stops
returns-in_default-clause-stops g c =
    let reader = c.args.reader.now in
    let long : length c.read_block.new.block ≡ 65536 = omega (arith, c.read_block.auto.block, c.as_mut_slice.ensures.len, reader.whole) in
    let same : c.as_slice.result.now ≡ c.read_block.new.block = c.as_slice.ensures.value ∙ with_items_is reader.block c.read_block.new.block (omega (arith, long, reader.whole)) in
    load_untold reader.sum (rest_of reader) (none_left reader.at reader.block.items c.requires.given) (g.S.Source.left c.args.source.now) (g.S.Source.left c.read_block.new.source) c.in_ok-count.count c.read_block.new.block
    long c.if-count-lt-BLOCK_LEN.false c.in_ok-count.ensures.given (ap (sum_after reader.sum) (sym same) ∙ sym c.sum_after.ensures ∙ c.in_default.is)

pub returns-clause-same : goal.returns-clause-same
returns-clause-same g c =
    let reader = c.args.reader.now in
    let long : length c.read_block.new.block ≡ 65536 = omega (arith, c.read_block.auto.block, c.as_mut_slice.ensures.len, reader.whole) in
    let items : (with_items reader.block c.read_block.new.block).items ≡ c.read_block.new.block = with_items_is reader.block c.read_block.new.block (omega (arith, long, reader.whole)) in
    load_same reader.sum (rest_of reader) (none_left reader.at reader.block.items c.requires.given) (g.S.Source.left c.args.source.now) (g.S.Source.left c.read_block.new.source) c.in-Some.sum c.in_ok-count.count
    c.read_block.new.block (take 65528 (with_items reader.block c.read_block.new.block).items) long c.if-count-lt-BLOCK_LEN.false c.in_ok-count.ensures.given
    (ap (sum_after reader.sum) (sym (c.as_slice.ensures.value ∙ items)) ∙ sym c.sum_after.ensures ∙ c.in-Some.is) (ap (take 65528) items)
