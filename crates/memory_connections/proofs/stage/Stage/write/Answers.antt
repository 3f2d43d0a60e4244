use Rattle.std.proofs.Common.{rules, ◌≡◌, false, length, refl, arith}
use Rattle.std.specs.Prelude.{min, take}
use Rattle.memory_connections.proofs.Stages.{stays, sends_there, takes_there}
use Rattle.connections.specs.State.{sent}
use Rattle.memory_connections.proofs.Timing.{timed_as, timed_on}
use Rattle.memory_connections.proofs.stage.Stage.write.Goals as goal

pub invariant_of-self : goal.invariant_of-self
invariant_of-self c =
    let i = c.self.inside in
    let count : c.min-count.result ≡ min (length c.args.piece.now) (min c.index-connection.result.now.window c.args.most) = search rules in
    let e = sends_there i.schedule.now i.at i.owed.items i.paid i.all.items i.log.entries i.log.room c.self.invariant.0 c.args.self.now c.self.view_is c.args.place c.requires.there c.index-connection.result.now c.index-connection.ensures c.min-count.result c.args.piece.now (omega (arith, count)) (omega (arith, count)) in (
      stays e i.owed.items c.narrow_at.new.all.items c.send.new.self.entries c.send.new.self.room refl c.narrow_at.ensures.after c.send.ensures.entries c.send.ensures.room,
      omega (arith, c.self.invariant.1, c.send.ensures.room),
      omega (arith, c.self.invariant.2, c.send.ensures.room, c.narrow_at.ensures.len, c.narrow_at.ensures.capacity),
      timed_as (timed_on i.schedule.now i.log.entries i.log.room i.present i.told c.self.invariant.3 (sent c.args.place (take c.min-count.result c.args.piece.now)) _ refl refl) c.send.new.self.entries c.send.new.self.room i.present i.told c.send.ensures.entries c.send.ensures.room refl refl,
    )

pub returns-clause-takes : goal.returns-clause-takes
returns-clause-takes c =
    let i = c.self.inside in
    let whole : c.index-connection.result.now.is_broken ≡ false = search rules in
    let count : c.min-count.result ≡ min (length c.args.piece.now) (min c.index-connection.result.now.window c.args.most) = search rules in
    takes_there i.schedule.now i.at i.owed.items i.paid i.all.items i.log.entries i.log.room c.self.invariant.0 c.args.self.now c.self.view_is c.args.place c.requires.there c.index-connection.result.now c.index-connection.ensures c.args.most c.min-count.result c.args.piece.now whole count
