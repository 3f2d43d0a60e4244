use Rattle.std.proofs.Common.{◌∙◌, refl, sym, subst}
use Rattle.partition_model.specs.declared.write.Write.{Write}
use Rattle.queue_front.specs.declared.queue_front.FrontPart.{FrontPart}
use Rattle.queue_front.specs.QueueFront.{HasAwaited}
use Rattle.queue_front.proofs.Telling.{part_writes}
use Rattle.queue_front.proofs.queue_front.FrontPart.write.Goals as goal

pub tell-requires : goal.tell-requires
tell-requires g c = c.await_ack-ack.ensures.order.note ∙ c.requires.whole.home

pub returns : goal.returns
returns g c =
    let old = c.args.self.now in
    let ack = c.await_ack-ack.result in
    let new : FrontPart = record { seat = c.tell.new.self; jobs = c.send.new.self; acks = c.await_ack-ack.new.acks; last = ack.stamp } in
    let awaited = subst (λ (w : Write). HasAwaited old.acks old.last c.args.job.ticket w ack new.acks) (sym c.requires.write) c.await_ack-ack.ensures in
    part_writes old new c.args.job ack c.requires.whole awaited refl c.send.ensures c.tell.ensures.event c.tell.ensures.seen c.tell.ensures.done c.tell.ensures.home
