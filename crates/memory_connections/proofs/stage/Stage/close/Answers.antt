use Rattle.std.proofs.Common.{refl, arith}
use Rattle.memory_connections.proofs.Stages.{stays, closes_there}
use Rattle.connections.specs.State.{closed}
use Rattle.memory_connections.proofs.Timing.{timed_as, timed_on}
use Rattle.memory_connections.proofs.stage.Stage.close.Goals as goal

pub note-requires : goal.note-requires
note-requires c =
    let i = c.self.inside in
    let e = closes_there i.schedule.now i.at i.owed.items i.paid i.all.items i.log.entries i.log.room c.self.invariant.0 c.args.self.now c.self.view_is c.args.place c.requires.there c.requires.open in
    omega (arith, e.room_for)

pub invariant_of-self : goal.invariant_of-self
invariant_of-self c =
    let i = c.self.inside in
    let e = closes_there i.schedule.now i.at i.owed.items i.paid i.all.items i.log.entries i.log.room c.self.invariant.0 c.args.self.now c.self.view_is c.args.place c.requires.there c.requires.open in (
      stays e i.owed.items c.close_at.new.all.items c.note.new.self.entries c.note.new.self.room refl c.close_at.ensures.after c.note.ensures.entries c.note.ensures.room,
      omega (arith, c.self.invariant.1, c.note.ensures.room),
      omega (arith, c.self.invariant.2, c.note.ensures.room, c.close_at.ensures.len, c.close_at.ensures.capacity),
      timed_as (timed_on i.schedule.now i.log.entries i.log.room i.present i.told c.self.invariant.3 (closed c.args.place) _ refl refl) c.note.new.self.entries c.note.new.self.room i.present i.told c.note.ensures.entries c.note.ensures.room refl refl,
    )
