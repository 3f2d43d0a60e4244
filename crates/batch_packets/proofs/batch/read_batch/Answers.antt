use Rattle.std.proofs.Common.{arith}
use Rattle.batch_packets.specs.Remaining.{HasLeft}
use Rattle.batch_packets.proofs.Taking.{some_left, one_read}
use Rattle.batch_packets.proofs.batch.read_batch.Goals as goal

pub next_request-requires : goal.next_request-requires
next_request-requires c = record { some = some_left _ _ _ _ _ c.loop.invariant.reading c.loop-test.true }

pub loop-preserved : goal.loop-preserved
loop-preserved c = record {
  len = omega (arith, c.push_reserved.ensures.len, c.loop.invariant.len);
  room = omega (arith, c.push_reserved.ensures.capacity, c.loop.invariant.room);
  reading = rw (c.push_reserved.ensures.items, c.in_ok-to_request.ensures) (one_read _ _ _ _ _ (HasLeft c.next_request.new.self) c.next_request.result c.loop.invariant.reading c.loop-test.true c.next_request.ensures.taken);
}
