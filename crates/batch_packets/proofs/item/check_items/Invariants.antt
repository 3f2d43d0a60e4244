use Rattle.std.proofs.Common.{◌≡◌, ◌-◌}
use Rattle.batch_packets.specs.Datagram.{items_fault}
use Rattle.batch_packets.proofs.Taking.{Remains}
use Rattle.batch_packets.proofs.item.check_items.Given as goal

abbrev pub invariant-loop : goal.invariant-loop
invariant-loop g l =
    let item = g.T.Item in
    let remains = Remains item.text item.is_item item.is_in_range l.version in
    record {
      carry : remains (l.count - l.counter) l.rest → remains l.count l.from;
      faults : items_fault item.kind l.version l.count l.from ≡ items_fault item.kind l.version (l.count - l.counter) l.rest;
    }
