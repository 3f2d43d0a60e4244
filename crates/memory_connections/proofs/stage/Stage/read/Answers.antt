use Rattle.std.proofs.Common.{rules, ◌<◌, length, refl, arith}
use Rattle.memory_connections.proofs.Stages.{stays_told, reads_there, gives_there, gives_all_there, fits_there}
use Rattle.connections.specs.State.{received}
use Rattle.memory_connections.proofs.Timing.{told_as}
use Rattle.memory_connections.proofs.stage.Stage.read.Goals as goal

pub invariant_of-self : goal.invariant_of-self
invariant_of-self c =
    let i = c.self.inside in
    let waits : 0 < length c.index-connection.result.now.waiting = search rules in
    let e = reads_there i.schedule.now i.at i.owed.items i.paid i.all.items i.log.entries i.log.room c.self.invariant.0 c.args.self.now c.self.view_is c.args.place c.requires.there c.index-connection.result.now c.index-connection.ensures c.args.most c.take_at-given.result.now c.requires.some waits c.take_at-given.ensures.count in (
      stays_told e i.present c.take_at-given.new.all.items c.note_at.new.self.entries c.note_at.new.self.room c.take_at-given.ensures.after c.note_at.ensures.entries c.note_at.ensures.room,
      omega (arith, c.self.invariant.1, c.note_at.ensures.room),
      omega (arith, c.self.invariant.2, c.note_at.ensures.room, c.take_at-given.ensures.len, c.take_at-given.ensures.capacity),
      told_as c.self.invariant.3 (received c.args.place c.take_at-given.result.now) 0 refl (omega arith) e.room_for i.present c.note_at.new.self.entries c.note_at.new.self.room (omega arith) c.note_at.ensures.entries c.note_at.ensures.room,
    )

pub invariant_of-self-2 : goal.invariant_of-self-2
invariant_of-self-2 c =
    let i = c.self.inside in
    let waits : 0 < length c.index-connection.result.now.waiting = search rules in
    let e = reads_there i.schedule.now i.at i.owed.items i.paid i.all.items i.log.entries i.log.room c.self.invariant.0 c.args.self.now c.self.view_is c.args.place c.requires.there c.index-connection.result.now c.index-connection.ensures c.args.most c.take_at-given.result.now c.requires.some waits c.take_at-given.ensures.count in (
      stays_told e i.present c.take_at-given.new.all.items c.note_at.new.self.entries c.note_at.new.self.room c.take_at-given.ensures.after c.note_at.ensures.entries c.note_at.ensures.room,
      omega (arith, c.self.invariant.1, c.note_at.ensures.room),
      omega (arith, c.self.invariant.2, c.note_at.ensures.room, c.take_at-given.ensures.len, c.take_at-given.ensures.capacity),
      told_as c.self.invariant.3 (received c.args.place c.take_at-given.result.now) 0 refl (omega arith) e.room_for i.present c.note_at.new.self.entries c.note_at.new.self.room (omega arith) c.note_at.ensures.entries c.note_at.ensures.room,
    )

pub returns-then-is_emptied-clause-gives : goal.returns-then-is_emptied-clause-gives
returns-then-is_emptied-clause-gives c =
    let i = c.self.inside in
    let waits : 0 < length c.index-connection.result.now.waiting = search rules in
    gives_all_there i.schedule.now i.at i.owed.items i.paid i.all.items i.log.entries i.log.room c.self.invariant.0 c.args.self.now c.self.view_is c.args.place c.requires.there c.index-connection.result.now c.index-connection.ensures c.args.most c.take_at-given.result.now c.requires.some waits c.take_at-given.ensures.count c.put.new.out c.take_at-given.ensures.given c.put.ensures (c.is_emptied-is_emptied.ensures.all c.if-is_emptied.true)

pub returns-clause-gives : goal.returns-clause-gives
returns-clause-gives c =
    let i = c.self.inside in
    let waits : 0 < length c.index-connection.result.now.waiting = search rules in
    gives_there i.schedule.now i.at i.owed.items i.paid i.all.items i.log.entries i.log.room c.self.invariant.0 c.args.self.now c.self.view_is c.args.place c.requires.there c.index-connection.result.now c.index-connection.ensures c.args.most c.take_at-given.result.now c.requires.some waits c.take_at-given.ensures.count c.put.new.out c.take_at-given.ensures.given c.put.ensures

pub returns-clause-fits : goal.returns-clause-fits
returns-clause-fits c =
    let i = c.self.inside in
    let waits : 0 < length c.index-connection.result.now.waiting = search rules in
    fits_there i.schedule.now i.at i.owed.items i.paid i.all.items i.log.entries i.log.room c.self.invariant.0 c.args.self.now c.self.view_is c.args.place c.requires.there c.index-connection.result.now c.index-connection.ensures c.args.most c.take_at-given.result.now c.requires.some waits c.take_at-given.ensures.count (length c.args.out.now) c.requires.fits
