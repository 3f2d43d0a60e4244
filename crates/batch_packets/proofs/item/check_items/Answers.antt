use Rattle.std.proofs.Common.{rules}
use Rattle.std.proofs.lemmas.Result.{err_from_is_err_and}
use Rattle.batch_packets.specs.Datagram.{items_fault}
use Rattle.batch_packets.proofs.Taking.{one_remains}
use Rattle.batch_packets.proofs.Walk.{goes_on, ends, trails, is_done}
use Rattle.batch_packets.proofs.item.check_items.Goals as goal

pub returns-in_err-after-clause-fault : goal.returns-in_err-after-clause-fault
returns-in_err-after-clause-fault g c =
    let p = err_from_is_err_and c.from_residual.result c.from_residual.ensures.1 in
    rw (p.1, p.2) (ends g.T.Item.kind c.args.version c.args.count c.loop.counter c.loop.rest.now (items_fault g.T.Item.kind c.args.version c.args.count c.args.from.now) c.in_err-after.field-0.0 c.loop-test.true c.in_err-after.ensures.fault c.loop.invariant.faults)

pub loop-preserved : goal.loop-preserved
loop-preserved g c =
    let item = g.T.Item in
    record {
      carry = λ later. c.loop.invariant.carry (one_remains item.text item.is_item item.is_in_range c.args.version c.args.count c.loop.counter c.loop.rest.now c.in_ok-after.after.now c.in_ok-after.field-0-0 c.loop-test.true c.in_ok-after.ensures.text c.in_ok-after.ensures.lawful c.in_ok-after.ensures.in_range later);
      faults = goes_on item.kind c.args.version c.args.count c.loop.counter c.loop.rest.now c.in_ok-after.after.now (items_fault item.kind c.args.version c.args.count c.args.from.now) c.loop-test.true c.in_ok-after.ensures.fault c.in_ok-after.ensures.rest c.loop.invariant.faults;
    }

pub returns-then-not-is_empty-clause-fault : goal.returns-then-not-is_empty-clause-fault
returns-then-not-is_empty-clause-fault g c = trails g.T.Item.kind c.args.version c.args.count c.loop.counter c.loop.rest.now (items_fault g.T.Item.kind c.args.version c.args.count c.args.from.now) c.loop-test.false (search rules) c.loop.invariant.faults

pub returns-clause-fault : goal.returns-clause-fault
returns-clause-fault g c = is_done g.T.Item.kind c.args.version c.args.count c.loop.counter c.loop.rest.now (items_fault g.T.Item.kind c.args.version c.args.count c.args.from.now) c.loop-test.false (search rules) c.loop.invariant.faults
