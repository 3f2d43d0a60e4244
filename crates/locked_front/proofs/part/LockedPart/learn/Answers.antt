use Rattle.std.proofs.Common.{refl, ◌∙◌}
use Rattle.locked_front.specs.declared.part.LockedPart.{LockedPart}
use Rattle.partition_table.specs.Seats.{reader_state}
use Rattle.locked_front.proofs.Telling.{has_learned}
use Rattle.locked_front.proofs.part.LockedPart.learn.Goals as goal

pub returns : goal.returns
returns g =
    let old = g.args.self.now in
    let learned = g.args.learned in
    let new : LockedPart = record { seat = g.stamp-newest.new.self; taker = old.taker; last = learned.counts.stamp; newest = g.stamp-newest.result; counts = learned.counts } in
    has_learned old new (reader_state g.tell.new.self) learned refl refl refl (g.stamp-newest.ensures.home ∙ g.tell.ensures.home) g.tell.ensures.event g.stamp-newest.ensures.event
    g.tell.ensures.seen g.stamp-newest.ensures.seen g.tell.ensures.done g.stamp-newest.ensures.value
