use Rattle.queue_front.proofs.Telling.{awaits_none, awaits_more, awaits_this}
use Rattle.queue_front.proofs.queue_front.await_ack.Goals as goal

pub loop-init : goal.loop-init
loop-init g c = awaits_none c.args.acks.now

pub returns-then-comes_after : goal.returns-then-comes_after
returns-then-comes_after g c =
    awaits_this c.args.acks.now c.loop.acks c.recv-ack.new.self c.recv-ack.result c.loop.invariant c.recv-ack.ensures.taken _ _ _ c.recv-ack.ensures.order c.recv-ack.ensures.acked
    (c.is_of.ensures.ticket c.if-is_of.true) (c.is_of.ensures.write c.if-is_of.true)
    (c.comes_after.ensures.no_fall c.if-comes_after.true) (c.comes_after.ensures.rises c.if-comes_after.true)

pub loop-preserved : goal.loop-preserved
loop-preserved g c = awaits_more c.args.acks.now c.loop.acks c.recv-ack.new.self c.recv-ack.result c.loop.invariant c.recv-ack.ensures.taken
