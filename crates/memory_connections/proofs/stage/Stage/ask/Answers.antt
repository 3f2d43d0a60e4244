use Rattle.std.proofs.Common.{refl, arith}
use Rattle.memory_connections.proofs.Stages.{stays, asks_there}
use Rattle.connections.specs.State.{asked}
use Rattle.memory_connections.proofs.Timing.{timed_as, timed_on}
use Rattle.memory_connections.proofs.stage.Stage.ask.Goals as goal

pub push_reserved-requires : goal.push_reserved-requires
push_reserved-requires c =
    let i = c.self.inside in
    let e = asks_there i.schedule.now i.at i.owed.items i.paid i.all.items i.log.entries i.log.room c.self.invariant.0 c.args.self.now c.self.view_is c.args.place c.requires.there c.requires.some in
    omega (arith, e.room_for, c.self.invariant.1)

pub note-requires : goal.note-requires
note-requires c =
    let i = c.self.inside in
    let e = asks_there i.schedule.now i.at i.owed.items i.paid i.all.items i.log.entries i.log.room c.self.invariant.0 c.args.self.now c.self.view_is c.args.place c.requires.there c.requires.some in
    omega (arith, e.room_for)

pub invariant_of-self : goal.invariant_of-self
invariant_of-self c =
    let i = c.self.inside in
    let e = asks_there i.schedule.now i.at i.owed.items i.paid i.all.items i.log.entries i.log.room c.self.invariant.0 c.args.self.now c.self.view_is c.args.place c.requires.there c.requires.some in (
      stays e c.push_reserved.new.self.items c.ask_at.new.all.items c.note.new.self.entries c.note.new.self.room c.push_reserved.ensures.items c.ask_at.ensures.after c.note.ensures.entries c.note.ensures.room,
      omega (arith, c.self.invariant.1, c.note.ensures.room, c.push_reserved.ensures.len, c.push_reserved.ensures.capacity, e.room_for),
      omega (arith, c.self.invariant.2, c.note.ensures.room, c.ask_at.ensures.len, c.ask_at.ensures.capacity),
      timed_as (timed_on i.schedule.now i.log.entries i.log.room i.present i.told c.self.invariant.3 (asked c.args.place) _ refl refl) c.note.new.self.entries c.note.new.self.room i.present i.told c.note.ensures.entries c.note.ensures.room refl refl,
    )
