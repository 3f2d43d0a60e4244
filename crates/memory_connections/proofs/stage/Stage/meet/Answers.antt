use Rattle.std.proofs.Common.{rules, ◌≡◌, refl, sym, arith}
use Rattle.std.specs.Prelude.{slice_get, Some}
use Rattle.connections.specs.declared.schedule.Step.TheVariants.{Happens}
use Rattle.std.proofs.Math.ListN.{drop_of_length-le}
use Rattle.memory_connections.proofs.Pending.{got, next_pending}
use Rattle.memory_connections.proofs.Stages.{stays, stage_met, meets_none}
use Rattle.connections.specs.State.{met}
use Rattle.memory_connections.proofs.Timing.{timed_as, timed_met, passes_by}
use Rattle.memory_connections.proofs.stage.Stage.meet.Goals as goal

pub invariant_of-self : goal.invariant_of-self
invariant_of-self c =
    let i = c.self.inside in
    let a = c.in-Some-Happens in
    let same : a.field-0.now ≡ Happens a.place a.change = search rules in
    let is : slice_get i.schedule.now i.at ≡ Some (Happens a.place a.change) = got i.schedule.now i.at a.field-0.now (Happens a.place a.change) a.ensures.lookup.0 a.ensures.lookup.1 same in
    let e = stage_met i.schedule.now i.at i.owed.items i.paid i.all.items i.log.entries i.log.room c.self.invariant.0 a.place a.change is in
    let passes = passes_by i.schedule.now i.at i.owed.items i.paid i.all.items i.log.entries i.log.room c.self.invariant.0 met _ (next_pending i.schedule.now i.at i.owed.items i.paid (Happens a.place a.change) is) in (
      stays e c.push_reserved.new.self.items c.change_at-number.new.all.items c.note.new.self.entries c.note.new.self.room c.push_reserved.ensures.items c.change_at-number.ensures.after c.note.ensures.entries c.note.ensures.room,
      omega (arith, c.self.invariant.1, c.note.ensures.room, c.push_reserved.ensures.len, c.push_reserved.ensures.capacity, e.room_for),
      omega (arith, c.self.invariant.2, c.note.ensures.room, c.change_at-number.ensures.len, c.change_at-number.ensures.capacity),
      timed_as (timed_met i.schedule.now i.log.entries i.log.room i.present i.told c.self.invariant.3 met a.change.passes passes refl (search rules) e.room_for) c.note.new.self.entries c.note.new.self.room _ i.told c.note.ensures.entries c.note.ensures.room (search rules) refl,
    )

pub returns-in-None-clause-entries : goal.returns-in-None-clause-entries
returns-in-None-clause-entries c =
    let i = c.self.inside in
    sym (meets_none i.schedule.now i.at i.owed.items i.paid i.all.items i.log.entries i.log.room c.self.invariant.0 c.args.self.now c.self.view_is
    (drop_of_length-le i.schedule.now c.in-None.ensures.lookup.3))
