use Rattle.std.proofs.Common.{◌≡◌, length, take, arith}
use Rattle.saved_items.proofs.Puts.{Puts_full}
use Rattle.saved_items.proofs.writing.put_front.Goals as goal

pub returns-in_ok-spiller-clause-puts : goal.returns-in_ok-spiller-clause-puts
returns-in_ok-spiller-clause-puts g c =
    let filled = c.extend_from_slice.new.self in
    let full : length filled.items ≡ 65528 = omega (arith, c.if-len-eq-CONTENT_LEN.true, c.len-2.ensures, filled.ok.0) in
    Puts_full (g.K.Sink.taken c.args.sink.now) (g.K.Sink.taken c.write_block.new.sink) c.args.spiller.now.sum c.in_ok-spiller.field-0 c.args.spiller.now.held.items c.write_block.new.content.items filled.items
    (take c.min-count.result c.args.bytes.now) c.in_ok-spiller.ensures.sum c.in_ok-spiller.ensures.empty c.in_ok-extend_from_slice.ensures.items full c.in_ok-spiller.ensures.wrote
