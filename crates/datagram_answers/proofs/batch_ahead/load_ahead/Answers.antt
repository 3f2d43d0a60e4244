use Rattle.std.proofs.Common.{[], sym, subst, arith}
use Rattle.batch_packets.specs.Remaining.{Remaining, HasLeft}
use Rattle.batch_packets.proofs.Taking.{some_left, one_read}
use Rattle.datagram_answers.proofs.batch_ahead.load_ahead.Goals as goal

pub loop-i-init : goal.loop-i-init
loop-i-init g c = (
  [],
  record {
    left = c.requires.0;
    few = omega (arith, c.requires.1.many);
    has = subst (λ (u : Remaining). HasLeft u c.requires.0) (sym c.again-ahead.ensures) c.requires.1.left;
    all = tt;
  },
)

pub next_request-request-requires : goal.next_request-request-requires
next_request-request-requires g c = record { some = some_left _ _ _ _ _ c.loop-i.invariant.1 (omega (arith, c.loop-i-test.true, c.from-many.ensures)) }

pub loop-i-preserved : goal.loop-i-preserved
loop-i-preserved g c = (_, one_read _ _ _ _ _ (HasLeft c.next_request-request.new.self) c.next_request-request.result c.loop-i.invariant.1 (omega (arith, c.loop-i-test.true, c.from-many.ensures)) c.next_request-request.ensures.taken)
